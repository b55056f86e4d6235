-- What a row stands for, in each case.
-- Assumes nothing.
use mathlib.Core.Path.{◌≡◌, refl}
use mathlib.Core.Bool.{Bool, true, false}
use mathlib.Core.List.{List, []}
use Prim.Native.Nat.{ℕ, ◌≤◌}
use native.Mathlib.Omega.{arith}
use lib.ListN.{length, get_or}
use lib.Dec.{eqb, ltb}
use borrow.Author.Tests.{le-ltb, ne_eqb, ltb-false}
use Rattle.std.specs.Prelude.{Some, None}
use Rattle.bits.specs.Answer.{pick, first_of, other, truth}
use Rattle.packet.specs.Packet.{not_packet}
use Rattle.machine.specs.declared.Mode.{Mode}
use Rattle.machine.specs.declared.Mode.TheVariants.{Crate, Standard}
use Rattle.machine.specs.declared.Phase.{Phase}
use Rattle.machine.specs.declared.Phase.TheVariants.{Begin, Started, IgnoreRest}
use Rattle.machine.specs.declared.Repeat.{Repeat}
use Rattle.machine.specs.declared.Repeat.TheVariants.{Barred, Open, Spent}
use Rattle.machine.specs.declared.Machine.{Machine}
use Rattle.machine.specs.Events.{Last}
use Rattle.machine.specs.Step.{wrong_last, not_taken}
use Rattle.machine.specs.Row.{mode_of, phase_of, last_of, again_of, no_last}
use Rattle.machine.specs.Row.{mode_number, phase_number, last_number, again_number, strays, machine_of, row_of}

-- what a row that stands for nothing is refused with, beside a packet: 1, 2, 14
pub stray-number : (p : List ℕ) → first_of (not_taken p true []) ≡ pick (other (length p) 188) 1 (pick (other (get_or p 0 0) 0x47) 2 14)
unfolding not_taken not_packet
stray-number p = refl

-- ---- theorems: a row reads back

mode-back : (mo : Mode) → (ltb 1 (mode_number mo) ≡ false) × (mode_of (mode_number mo) ≡ mo)
mode-back Crate = (refl, refl)
mode-back Standard = (refl, refl)

phase-back : (ph : Phase) → (ltb 2 (phase_number ph) ≡ false) × (phase_of (phase_number ph) ≡ ph)
phase-back Begin = (refl, refl)
phase-back Started = (refl, refl)
phase-back IgnoreRest = (refl, refl)

last-back : (l : Last) → wrong_last l ≡ false → (no_last (last_number l) ≡ false) × (last_of (last_number l) ≡ l)
last-back None h = (refl, refl)
last-back (Some c) h =
    let n : eqb c.val 255 ≡ false = ne_eqb c.val 255 (λ z. let w = ltb-false 15 c.val h in omega arith) in
    simp (n, h) (refl, refl)

again-back : (r : Repeat) → (ltb 2 (again_number r) ≡ false) × (again_of (again_number r) ≡ r)
again-back Barred = (refl, refl)
again-back Open = (refl, refl)
again-back Spent = (refl, refl)

announced-back : (a : Bool) → (ltb 1 (truth a) ≡ false) × (eqb (truth a) 1 ≡ a)
announced-back true = (refl, refl)
announced-back false = (refl, refl)

-- the row of a machine stands for that machine
pub row_back : (m : Machine) → wrong_last m.last ≡ false → m.taken ≤ 4294967295 → machine_of (row_of m) ≡ Some m
unfolding machine_of strays row_of
row_back m h k =
    let a = mode-back m.mode in
    let b = phase-back m.phase in
    let c = last-back m.last h in
    let d = again-back m.again in
    let e = announced-back m.announced in
    simp (a.0, a.1, b.0, b.1, c.0, c.1, d.0, d.1, e.0, e.1, le-ltb 4294967295 m.taken k)
