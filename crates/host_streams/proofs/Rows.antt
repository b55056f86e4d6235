-- What the entries report, in each case.
-- Assumes nothing.
use mathlib.Core.Path.{◌≡◌, refl}
use mathlib.Core.Bool.{Bool, true, false, ◌||◌}
use mathlib.Core.List.{List, [], ◌∷◌}
use Prim.Native.Nat.{ℕ}
use native.Mathlib.Omega.{arith}
use lib.Dec.{eqb}
use Rattle.bits.specs.Answer.{answer, first_of}
use Rattle.bits.specs.Refused.{refused}
use Rattle.bits.specs.declared.refusal.Refusal.{Refusal}
use Rattle.packet.specs.Packet.{not_packet}
use Rattle.machine.specs.declared.Machine.{Machine}
use Rattle.machine.specs.Step.{not_taken, is_full, number_of, step_of, log_of}
use Rattle.machine.specs.Run.{run_of, not_run, run_number, report_of}
use Rattle.event_log.specs.declared.Event.{Event}
use Rattle.gather.specs.declared.Gathering.{Gathering}
use Rattle.gather.specs.Gather.{not_gathered, gather_number, gather_of}
use Rattle.gather.specs.Row.{not_state}
use Rattle.host.specs.Reports.{Reports, word}

-- ---- a number that is told with no values

abbrev plain : ℕ → Bool
plain n = eqb n 12 || eqb n 13

pub values_none : (r : Refusal) → plain (refused r).number ≡ false → (refused r).values ≡ []
values_none r h = grind arith

-- its word is the number
pub word-plain : (r : Refusal) → plain (refused r).number ≡ false → word (refused r) ≡ (refused r).number
word-plain r h = grind arith

pub number-none : (n w : ℕ) → Reports (answer n []) w [] [] → w ≡ n
number-none n w t = grind (arith, t.number)

-- ---- the machine

pub step-plain : (m : Machine) (p l : List ℕ) → plain (step_of m p l).number ≡ false
unfolding step_of number_of not_taken not_packet is_full
step-plain m p l = grind arith

run-plain : (m : Machine) (ps : List (List ℕ)) (l : List ℕ) → plain (run_of m ps l).answer.number ≡ false
run-plain m [] l = refl
run-plain m (p ∷ ps) l = grind (arith, step-plain, run-plain (step_of m p l).machine ps (log_of m p l))

pub report-plain : (m : Machine) (bs l : List ℕ) → plain (report_of m bs l).number ≡ false
unfolding report_of run_number not_run
report-plain m bs l = grind arith

pub ended-plain : (m : Machine) (bs l : List ℕ) → plain (report_of m bs l).ended ≡ false
unfolding report_of run_number not_run
ended-plain m bs l = grind (arith, run-plain)

-- ---- the gathering store

-- a row that stands for nothing is refused alike by both: 1, 2, 14
pub refused_alike : (p : List ℕ) → first_of (not_state p) ≡ first_of (not_taken p true [])
unfolding not_state not_taken
refused_alike p = refl

pub gathered-plain : (g : Gathering) (p : List ℕ) (e : Event) (s : List ℕ) → plain (gather_of g p e s).number ≡ false
unfolding gather_of gather_number not_gathered not_packet
gathered-plain g p e s = grind arith

pub ruleset step_laws = (step-plain, word-plain, number-none)

pub ruleset run_laws = (report-plain, ended-plain, word-plain, number-none)

pub ruleset gather_laws = (gathered-plain, refused_alike, word-plain, number-none)
