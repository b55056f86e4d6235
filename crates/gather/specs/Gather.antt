-- The gathering store: what a call answers, the state after it, and the store's bytes.
use Rattle.std.specs.Prelude.{◌≡◌, Bool, true, false, ◌||◌, List, [], ◌∷◌, ◌++◌, ℕ, ◌+◌, eqb, leb, ltb, length, get_or, Result, Ok, Err}
use Rattle.bits.specs.Answer.{Answer, answer, pick, Check, ◌gives◌, unless, first_of, placed_at, part_at}
use Rattle.bits.specs.Numbers.{done, out_of_range, store_full}
use Rattle.bits.specs.Refused.{refused}
use Rattle.bits.specs.declared.refusal.Refusal.{Refusal}
use Rattle.bits.specs.declared.refusal.Refusal.TheVariants.{StoreFull}
use Rattle.packet.specs.Packet.{not_packet}
use Rattle.event_log.specs.declared.Event.{Event}
use Rattle.event_log.specs.Entry.{start_stream, begin_packet, continue_packet, end_packet, continuity_error}
use Rattle.gather.specs.declared.Lies.{Lies}
use Rattle.gather.specs.declared.Lies.TheVariants.{Packet, Store}
use Rattle.gather.specs.declared.Gathering.{Gathering}
use Rattle.gather.specs.declared.Gathered.{Gathered}
use Rattle.gather.specs.Belongs.{event_bytes, own_place, own_bytes}

abbrev pub gathering : Bool → ℕ → Lies → Gathering
gathering o n l = record { opened = o; count = n; lies = l }

-- no unit, no bytes: before the first event, after a break and after 20
abbrev pub emptied : Gathering
emptied = gathering false 0 Store

-- ---- what is refused

-- an event of no kind 1 to 5, or whose part leaves the packet
unfoldable pub wrong_event : Event → Bool
wrong_event e = ltb e.kind start_stream || ltb continuity_error e.kind || ltb 188 (e.place + e.length)

-- so many bytes leave the packet, where they lie there
abbrev pub leaves_packet : Lies → ℕ → Bool
leaves_packet (Packet a) n = ltb 188 (a + n)
leaves_packet Store n = false

-- a state whose bytes leave a store of so many bytes, or the packet where they lie there
unfoldable pub wrong_gathering : Gathering → ℕ → Bool
wrong_gathering g room = ltb room g.count || leaves_packet g.lies g.count

-- ---- what an event does

abbrev pub is : ℕ → Event → Bool
is k e = eqb e.kind k

-- how many bytes stay before those that the event adds: a begin opens a unit anew
abbrev pub kept : Gathering → Event → ℕ
kept g e = pick (is begin_packet e) 0 g.count

-- the bytes that it adds: a begin those that belong to its unit, a continue all that it names where a unit is open
unfoldable pub added : Gathering → List ℕ → Event → List ℕ
added g p e =
    pick (is begin_packet e) (own_bytes (event_bytes p e))
    (pick (is continue_packet e) (pick g.opened (event_bytes p e) []) [])

-- the state after it
unfoldable pub next_gathering : Gathering → List ℕ → Event → Gathering
next_gathering g p e =
    pick (is start_stream e) g
    (pick (is begin_packet e) (gathering true (length (added g p e)) (Packet (e.place + own_place (event_bytes p e))))
    (pick (is continue_packet e) (gathering g.opened (g.count + length (added g p e)) Store)
    (pick (is end_packet e) (gathering false g.count Store)
    emptied)))

-- ---- a call

-- 1, 2, 14, 20 in this order: 20 where the unit would exceed the store
unfoldable pub not_gathered : Gathering → List ℕ → Event → List ℕ → List Check
not_gathered g p e s =
    not_packet p ++ (
    wrong_event e gives out_of_range
    ∷ wrong_gathering g (length s) gives out_of_range
    ∷ ltb (length s) (kept g e + length (added g p e)) gives store_full
    ∷ [])

unfoldable pub gather_number : Gathering → List ℕ → Event → List ℕ → ℕ
gather_number g p e s = first_of (not_gathered g p e s)

-- an answer's number and the state after it
pub record GatherOutcome : Type 0 where
  pub number : ℕ
  pub gathering : Gathering

abbrev pub gather_outcome : ℕ → Gathering → GatherOutcome
gather_outcome n g = record { number = n; gathering = g }

abbrev pub store_number : Result Unit Refusal → ℕ
store_number (Ok x) = done
store_number (Err r) = (refused r).number

abbrev pub given_gathered : Gathered → GatherOutcome
given_gathered r = gather_outcome (store_number r.verdict) r.gathering

-- on 20 the unit counts 0 bytes and is closed; on any other refusal the state stays
abbrev pub gathering_after : ℕ → Gathering → Gathering → Gathering
gathering_after n g' g = pick (eqb n done) g' (pick (eqb n store_full) emptied g)

unfoldable pub gather_of : Gathering → List ℕ → Event → List ℕ → GatherOutcome
gather_of g p e s = gather_outcome (gather_number g p e s) (gathering_after (gather_number g p e s) (next_gathering g p e) g)

-- in the store only the added bytes change; on a refusal nothing does
unfoldable pub store_of : Gathering → List ℕ → Event → List ℕ → List ℕ
store_of g p e s = pick (eqb (gather_number g p e s) done) (placed_at s (kept g e) (added g p e)) s

-- ---- the bytes so far

-- 1, 2, 14 in this order
unfoldable pub not_read : Gathering → List ℕ → List ℕ → List Check
not_read g p s = not_packet p ++ (wrong_gathering g (length s) gives out_of_range ∷ [])

unfoldable pub read_of : Gathering → List ℕ → List ℕ → ℕ
read_of g p s = first_of (not_read g p s)

-- out of the packet after a begin, otherwise out of the store
abbrev pub lying : Lies → ℕ → List ℕ → List ℕ → List ℕ
lying (Packet a) n p s = part_at a n p
lying Store n p s = part_at 0 n s

-- empty on a refusal
unfoldable pub held_bytes : Gathering → List ℕ → List ℕ → List ℕ
held_bytes g p s = pick (eqb (read_of g p s) done) (lying g.lies g.count p s) []

-- ---- cited by private functions alone

-- neither 1, 2 nor 14
abbrev pub CallStands : Gathering → List ℕ → Event → List ℕ → Type 0
CallStands g p e s = (length p ≡ 188) × (get_or p 0 0 ≡ 0x47) × (wrong_event e ≡ false) × (wrong_gathering g (length s) ≡ false)

-- an event's kind, and a state, where they are not refused
abbrev pub event_kind : Event → Answer
event_kind e = unless (wrong_event e gives out_of_range ∷ []) (answer done (e.kind ∷ []))

abbrev pub standing : Gathering → ℕ → Answer
standing g room = unless (wrong_gathering g room gives out_of_range ∷ []) (answer done [])

-- so many bytes that stay and those that are added: how many there are then, or 20
abbrev pub appended : ℕ → List ℕ → List ℕ → Result ℕ Refusal
appended k xs s = pick (leb (k + length xs) (length s)) (Ok (k + length xs)) (Err StoreFull)

-- the state after an event, or 20
abbrev pub applied : Gathering → List ℕ → Event → List ℕ → Result Gathering Refusal
applied g p e s = pick (leb (kept g e + length (added g p e)) (length s)) (Ok (next_gathering g p e)) (Err StoreFull)

-- the state after an event, or a refusal, as the outcome of a call in a state
abbrev pub given_next : Gathering → Result Gathering Refusal → GatherOutcome
given_next g (Ok g') = gather_outcome done g'
given_next g (Err r) = gather_outcome (refused r).number (pick (eqb (refused r).number store_full) emptied g)
