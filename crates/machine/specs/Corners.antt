-- Corners of continuity and of StartStream, as rows: from a state, these packets, the continuity of each and the kinds of its events.
use Rattle.std.specs.Prelude.{◌≡◌, true, false, List, [], ◌∷◌, map, ℕ, suc, ◌+◌, replicate, Some, None}
use Rattle.event_log.specs.declared.Event.{Event}
use Rattle.machine.specs.declared.Mode.TheVariants.{Crate, Standard}
use Rattle.machine.specs.declared.Phase.TheVariants.{Begin, Started, IgnoreRest}
use Rattle.machine.specs.declared.Repeat.TheVariants.{Barred, Open, Spent}
use Rattle.machine.specs.declared.Continuity.{Continuity}
use Rattle.machine.specs.declared.Continuity.TheVariants.{GoesOn, Repeats, Breaks}
use Rattle.machine.specs.Events.{as_counter, State, state, events_of, next}
use Rattle.machine.specs.History.{first, continuities}

-- packets with counter c: a payload ..
abbrev pub P : ℕ → List ℕ
P c = 0x47 ∷ 1 ∷ 0 ∷ (0x10 + c) ∷ replicate 184 0xFF

-- .. none ..
abbrev pub A : ℕ → List ℕ
A c = 0x47 ∷ 1 ∷ 0 ∷ (0x20 + c) ∷ 183 ∷ 0 ∷ replicate 182 0xFF

-- .. a payload and the discontinuity bit; that bit and no payload ..
abbrev pub D : ℕ → List ℕ
D c = 0x47 ∷ 1 ∷ 0 ∷ (0x30 + c) ∷ 1 ∷ 0x80 ∷ replicate 182 0xFF

abbrev pub B : ℕ → List ℕ
B c = 0x47 ∷ 1 ∷ 0 ∷ (0x20 + c) ∷ 183 ∷ 0x80 ∷ replicate 182 0xFF

-- .. a start and a head
abbrev pub S : ℕ → List ℕ
S c = 0x47 ∷ 0x41 ∷ 0 ∷ (0x10 + c) ∷ 0 ∷ 0 ∷ 1 ∷ 0xE0 ∷ replicate 180 0

-- the payload flag, a length of 183 and the bit in byte 5: no adaptation field is given, so the bit does not count
abbrev pub F : ℕ → List ℕ
F c = 0x47 ∷ 1 ∷ 0 ∷ (0x30 + c) ∷ 183 ∷ 0x80 ∷ replicate 182 0xFF

pub record Corner : Type 0 where
  pub from : State
  pub packets : List (List ℕ)
  pub judged : List Continuity
  pub kinds : List (List ℕ)

abbrev pub corner : State → List (List ℕ) → List Continuity → List (List ℕ) → Corner
corner s ps cs ks = record { from = s; packets = ps; judged = cs; kinds = ks }

abbrev pub kind : Event → ℕ
kind e = e.kind

unfoldable pub kinds_of : ℕ → State → List (List ℕ) → List (List ℕ)
kinds_of i s [] = []
kinds_of i s (p ∷ ps) = map kind (events_of i s p) ∷ kinds_of (suc i) (next s p) ps

abbrev pub Holds : Corner → Type 0
Holds r = (continuities r.from r.packets ≡ r.judged) × (kinds_of 0 r.from r.packets ≡ r.kinds)

abbrev pub std : State
std = first Standard

-- StartStream 1, BeginPacket 2, ContinuePacket 3, EndPacket 4, ContinuityError 5
abbrev pub corners : List Corner
corners =
    corner std (P 5 ∷ P 5 ∷ P 5 ∷ P 5 ∷ P 5 ∷ []) (GoesOn ∷ Repeats ∷ Breaks ∷ Repeats ∷ Breaks ∷ []) ([] ∷ [] ∷ (1 ∷ 5 ∷ []) ∷ [] ∷ (5 ∷ []) ∷ [])
    ∷ corner std (P 5 ∷ A 5 ∷ P 5 ∷ []) (GoesOn ∷ GoesOn ∷ Breaks ∷ []) ([] ∷ [] ∷ (1 ∷ 5 ∷ []) ∷ [])
    ∷ corner std (A 5 ∷ P 5 ∷ []) (GoesOn ∷ Breaks ∷ []) ([] ∷ (1 ∷ 5 ∷ []) ∷ [])
    ∷ corner std (P 5 ∷ P 5 ∷ P 6 ∷ P 6 ∷ []) (GoesOn ∷ Repeats ∷ GoesOn ∷ Repeats ∷ []) ([] ∷ [] ∷ [] ∷ [] ∷ [])
    ∷ corner std (P 5 ∷ D 9 ∷ P 9 ∷ P 10 ∷ []) (GoesOn ∷ GoesOn ∷ Repeats ∷ GoesOn ∷ []) ([] ∷ [] ∷ [] ∷ [] ∷ [])
    ∷ corner std (P 5 ∷ D 5 ∷ []) (GoesOn ∷ GoesOn ∷ []) ([] ∷ [] ∷ [])
    ∷ corner std (P 5 ∷ P 5 ∷ A 5 ∷ P 5 ∷ []) (GoesOn ∷ Repeats ∷ GoesOn ∷ Breaks ∷ []) ([] ∷ [] ∷ [] ∷ (1 ∷ 5 ∷ []) ∷ [])
    ∷ corner std (P 5 ∷ S 5 ∷ []) (GoesOn ∷ Repeats ∷ []) ([] ∷ [] ∷ [])
    ∷ corner std (P 5 ∷ P 5 ∷ D 5 ∷ P 5 ∷ []) (GoesOn ∷ Repeats ∷ GoesOn ∷ Repeats ∷ []) ([] ∷ [] ∷ [] ∷ [] ∷ [])
    ∷ corner std (D 9 ∷ D 9 ∷ P 9 ∷ []) (GoesOn ∷ GoesOn ∷ Repeats ∷ []) ([] ∷ [] ∷ [] ∷ [])
    ∷ corner std (P 5 ∷ B 9 ∷ P 9 ∷ P 9 ∷ []) (GoesOn ∷ GoesOn ∷ Breaks ∷ Repeats ∷ []) ([] ∷ [] ∷ (1 ∷ 5 ∷ []) ∷ [] ∷ [])
    ∷ corner std (P 5 ∷ B 9 ∷ P 10 ∷ []) (GoesOn ∷ GoesOn ∷ GoesOn ∷ []) ([] ∷ [] ∷ [] ∷ [])
    ∷ corner std (P 5 ∷ P 9 ∷ P 9 ∷ []) (GoesOn ∷ Breaks ∷ Repeats ∷ []) ([] ∷ (1 ∷ 5 ∷ []) ∷ [] ∷ [])
    ∷ corner std (P 5 ∷ F 5 ∷ F 9 ∷ []) (GoesOn ∷ Repeats ∷ Breaks ∷ []) ([] ∷ [] ∷ (1 ∷ 5 ∷ []) ∷ [])
    ∷ corner std (P 15 ∷ P 0 ∷ P 0 ∷ P 1 ∷ []) (GoesOn ∷ GoesOn ∷ Repeats ∷ GoesOn ∷ []) ([] ∷ [] ∷ [] ∷ [] ∷ [])
    ∷ corner std (S 5 ∷ S 5 ∷ P 6 ∷ P 6 ∷ S 7 ∷ []) (GoesOn ∷ Repeats ∷ GoesOn ∷ Repeats ∷ GoesOn ∷ []) ((1 ∷ 2 ∷ []) ∷ [] ∷ (3 ∷ []) ∷ [] ∷ (4 ∷ 2 ∷ []) ∷ [])
    ∷ corner std (P 5 ∷ S 9 ∷ P 10 ∷ []) (GoesOn ∷ Breaks ∷ GoesOn ∷ []) ([] ∷ (1 ∷ 5 ∷ 2 ∷ []) ∷ (3 ∷ []) ∷ [])
    ∷ corner std (P 5 ∷ S 5 ∷ S 5 ∷ []) (GoesOn ∷ Repeats ∷ Breaks ∷ []) ([] ∷ [] ∷ (1 ∷ 5 ∷ 2 ∷ []) ∷ [])
    ∷ corner std (P 5 ∷ P 9 ∷ P 11 ∷ S 12 ∷ []) (GoesOn ∷ Breaks ∷ Breaks ∷ GoesOn ∷ []) ([] ∷ (1 ∷ 5 ∷ []) ∷ (5 ∷ []) ∷ (2 ∷ []) ∷ [])
    ∷ corner std (S 5 ∷ P 9 ∷ S 11 ∷ []) (GoesOn ∷ Breaks ∷ Breaks ∷ []) ((1 ∷ 2 ∷ []) ∷ (5 ∷ []) ∷ (5 ∷ 2 ∷ []) ∷ [])
    ∷ corner (state Standard Started None Open true) (P 5 ∷ []) (GoesOn ∷ []) ((3 ∷ []) ∷ [])
    ∷ corner (state Standard Started None Open false) (P 5 ∷ S 6 ∷ S 7 ∷ []) (GoesOn ∷ GoesOn ∷ GoesOn ∷ []) ((3 ∷ []) ∷ (1 ∷ 4 ∷ 2 ∷ []) ∷ (4 ∷ 2 ∷ []) ∷ [])
    ∷ corner (state Standard Started (Some (as_counter 5)) Open false) (S 9 ∷ []) (Breaks ∷ []) ((1 ∷ 5 ∷ 2 ∷ []) ∷ [])
    ∷ corner (state Standard Begin None Barred true) (S 5 ∷ S 6 ∷ []) (GoesOn ∷ GoesOn ∷ []) ((2 ∷ []) ∷ (4 ∷ 2 ∷ []) ∷ [])
    ∷ corner (state Standard Begin (Some (as_counter 5)) Open false) (S 5 ∷ S 5 ∷ []) (Repeats ∷ Breaks ∷ []) ([] ∷ (1 ∷ 5 ∷ 2 ∷ []) ∷ [])
    ∷ corner (state Standard Begin (Some (as_counter 5)) Open true) (S 5 ∷ S 5 ∷ []) (Repeats ∷ Breaks ∷ []) ([] ∷ (5 ∷ 2 ∷ []) ∷ [])
    ∷ corner (state Standard IgnoreRest (Some (as_counter 5)) Barred false) (P 5 ∷ []) (Breaks ∷ []) ((1 ∷ 5 ∷ []) ∷ [])
    ∷ corner (state Standard IgnoreRest (Some (as_counter 5)) Open false) (P 6 ∷ S 7 ∷ []) (GoesOn ∷ GoesOn ∷ []) ([] ∷ (1 ∷ 2 ∷ []) ∷ [])
    ∷ corner (state Standard Started (Some (as_counter 5)) Spent true) (P 5 ∷ P 5 ∷ []) (Breaks ∷ Repeats ∷ []) ((5 ∷ []) ∷ [] ∷ [])
    ∷ corner (first Crate) (P 5 ∷ P 5 ∷ S 6 ∷ D 9 ∷ []) (GoesOn ∷ Breaks ∷ GoesOn ∷ Breaks ∷ []) ([] ∷ (5 ∷ []) ∷ (2 ∷ []) ∷ (5 ∷ []) ∷ [])
    ∷ corner (state Crate Begin (Some (as_counter 5)) Open false) (P 5 ∷ []) (Breaks ∷ []) ((5 ∷ []) ∷ [])
    ∷ corner (state Crate Begin None Barred true) (S 5 ∷ []) (GoesOn ∷ []) ((1 ∷ 2 ∷ []) ∷ [])
    ∷ corner (state Crate Started None Barred false) (S 5 ∷ []) (GoesOn ∷ []) ((4 ∷ 2 ∷ []) ∷ [])
    ∷ []
