-- The calls over the events of a list of packets, and the bytes of a unit.
use Rattle.std.specs.Prelude.{◌≡◌, true, false, List, [], ◌∷◌, ◌++◌, ◌⊎◌, ℕ, ◌+◌, ◌≤◌, ◌<◌, length, get_or, take}
use Rattle.bits.specs.Numbers.{done}
use Rattle.event_log.specs.declared.Event.{Event}
use Rattle.event_log.specs.Entry.{begin_packet, end_packet}
use Rattle.gather.specs.declared.Gathering.{Gathering}
use Rattle.gather.specs.Belongs.{event_bytes, own_bytes}
use Rattle.gather.specs.Gather.{wrong_gathering, GatherOutcome, gather_of, store_of, held_bytes}

-- a state, and the bytes of the store that goes with it
pub record Standing : Type 0 where
  pub gathering : Gathering
  pub store : List ℕ

abbrev pub standing : Gathering → List ℕ → Standing
standing g s = record { gathering = g; store = s }

-- the packet of an event
abbrev pub packet_of : List (List ℕ) → Event → List ℕ
packet_of ps e = get_or ps e.index []

-- a call with an event and its packet: what it answers, and what stands after it
abbrev pub answered : List (List ℕ) → Standing → Event → GatherOutcome
answered ps t e = gather_of t.gathering (packet_of ps e) e t.store

abbrev pub called : List (List ℕ) → Standing → Event → Standing
called ps t e = standing (answered ps t e).gathering (store_of t.gathering (packet_of ps e) e t.store)

-- call by call: what stands after them, and the numbers that they answer
abbrev pub gather_all : List (List ℕ) → Standing → List Event → Standing
gather_all ps t [] = t
gather_all ps t (e ∷ es) = gather_all ps (called ps t e) es

abbrev pub answers : List (List ℕ) → Standing → List Event → List ℕ
answers ps t [] = []
answers ps t (e ∷ es) = (answered ps t e).number ∷ answers ps (called ps t e) es

-- the bytes so far, read out with the packet of an event
abbrev pub read_at : List (List ℕ) → Standing → Event → List ℕ
read_at ps t e = held_bytes t.gathering (packet_of ps e) t.store

-- THE BYTES OF A UNIT: of its begin those that belong to it, then all of its continues
abbrev pub bytes_at : List (List ℕ) → Event → List ℕ
bytes_at ps e = event_bytes (packet_of ps e) e

abbrev pub bytes_at_all : List (List ℕ) → List Event → List ℕ
bytes_at_all ps [] = []
bytes_at_all ps (e ∷ es) = bytes_at ps e ++ bytes_at_all ps es

unfoldable pub unit_bytes : List (List ℕ) → Event → List Event → List ℕ
unit_bytes ps b cs = own_bytes (bytes_at ps b) ++ bytes_at_all ps cs

-- the last of a begin and its continues
abbrev pub last_event : Event → List Event → Event
last_event b [] = b
last_event b (c ∷ cs) = last_event c cs

-- ---- what the theorems ask

-- an event whose packet is there and whose part lies in it
abbrev pub Inside : List (List ℕ) → Event → Type 0
Inside ps e = (e.index < length ps) × (e.place + e.length ≤ 188)

-- a state whose bytes lie in its store, and in a packet where they lie there: it is not refused with 14
abbrev pub GatheringStands : Standing → Type 0
GatheringStands t = wrong_gathering t.gathering (length t.store) ≡ false

abbrev pub Kind : ℕ → Event → Type 0
Kind k e = e.kind ≡ k

-- one of the five kinds; one of them that begins no unit; neither a begin nor an end
abbrev pub Known : Event → Type 0
Known e = (1 ≤ e.kind) × (e.kind ≤ 5)

abbrev pub NoBegin : Event → Type 0
NoBegin e = Known e × (Kind begin_packet e → ⊥)

abbrev pub Quiet : Event → Type 0
Quiet e = (Kind begin_packet e → ⊥) × (Kind end_packet e → ⊥)

-- some entry of a list has the property
abbrev pub Some {ℓ} : {A : Type ℓ} → (A → Type 0) → List A → Type 0
Some P [] = ⊥
Some P (x ∷ xs) = P x ⊎ Some P xs

-- ---- what they say

-- a call that is answered by 0
abbrev pub Taken : ℕ → Type 0
Taken n = n ≡ done

-- a unit is open with these bytes so far, in a store of n bytes: they stand from its start on, also while they are read out of a packet
pub record Open (u : List ℕ) (n : ℕ) (t : Standing) : Type 0 where
  pub opened : t.gathering.opened ≡ true
  pub count : t.gathering.count ≡ length u
  pub room : length t.store ≡ n
  pub stored : take (length u) t.store ≡ u
  pub good : GatheringStands t
