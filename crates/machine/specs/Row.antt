-- A machine as the numbers that a host keeps, in this order: mode 0 Crate, 1 Standard; phase 0 Begin, 1 Started, 2 IgnoreRest; last counter
-- 0 to 15, or 255 for none; repeat 0 Barred, 1 Open, 2 Spent; announced 0 no, 1 yes; packets taken; next free place of the log.
use Rattle.std.specs.Prelude.{Bool, true, false, ◌||◌, List, [], ◌∷◌, ℕ, eqb, ltb, get_or, Option, Some, None, Result, Ok, Err}
use Rattle.bits.specs.Answer.{pick, first_of, truth}
use Rattle.bits.specs.Numbers.{done}
use Rattle.bits.specs.declared.refusal.Refusal.{Refusal}
use Rattle.bits.specs.declared.refusal.Refusal.TheVariants.{OutOfRange}
use Rattle.machine.specs.declared.Mode.{Mode}
use Rattle.machine.specs.declared.Mode.TheVariants.{Crate, Standard}
use Rattle.machine.specs.declared.Phase.{Phase}
use Rattle.machine.specs.declared.Phase.TheVariants.{Begin, Started, IgnoreRest}
use Rattle.machine.specs.declared.Repeat.{Repeat}
use Rattle.machine.specs.declared.Repeat.TheVariants.{Barred, Open, Spent}
use Rattle.machine.specs.declared.Machine.{Machine}
use Rattle.machine.specs.Events.{Last, as_counter}
use Rattle.machine.specs.Step.{machine, not_taken, step_of, log_of}
use Rattle.machine.specs.Run.{not_run, report_of, ran_log}

-- ---- each number

abbrev pub mode_of : ℕ → Mode
mode_of n = pick (eqb n 0) Crate Standard

abbrev pub phase_of : ℕ → Phase
phase_of n = pick (eqb n 0) Begin (pick (eqb n 1) Started IgnoreRest)

abbrev pub last_of : ℕ → Last
last_of n = pick (eqb n 255) None (Some (as_counter n))

abbrev pub again_of : ℕ → Repeat
again_of n = pick (eqb n 0) Barred (pick (eqb n 1) Open Spent)

abbrev pub mode_number : Mode → ℕ
mode_number Crate = 0
mode_number Standard = 1

abbrev pub phase_number : Phase → ℕ
phase_number Begin = 0
phase_number Started = 1
phase_number IgnoreRest = 2

abbrev pub last_number : Last → ℕ
last_number None = 255
last_number (Some c) = c.val

abbrev pub again_number : Repeat → ℕ
again_number Barred = 0
again_number Open = 1
again_number Spent = 2

-- ---- the row

-- a number that stands for no counter: above 15, but for 255
abbrev pub no_last : ℕ → Bool
no_last n = pick (eqb n 255) false (ltb 15 n)

-- a number that stands for nothing: a mode above 1, a phase above 2, no counter, a repeat above 2, announced above 1, a count above 32 bits
unfoldable pub strays : List ℕ → Bool
strays xs =
    ltb 1 (get_or xs 0 0) || ltb 2 (get_or xs 1 0) || no_last (get_or xs 2 0) || ltb 2 (get_or xs 3 0) || ltb 1 (get_or xs 4 0)
    || ltb 4_294_967_295 (get_or xs 5 0)

-- THE MACHINE THAT A ROW STANDS FOR, if for one
unfoldable pub machine_of : List ℕ → Option Machine
machine_of xs =
    pick (strays xs) None
    (Some (machine (mode_of (get_or xs 0 0)) (phase_of (get_or xs 1 0)) (last_of (get_or xs 2 0)) (again_of (get_or xs 3 0)) (eqb (get_or xs 4 0) 1)
    (get_or xs 5 0) (get_or xs 6 0)))

-- THE ROW OF A MACHINE
unfoldable pub row_of : Machine → List ℕ
row_of m =
    mode_number m.mode ∷ phase_number m.phase ∷ last_number m.last ∷ again_number m.again ∷ truth m.announced ∷ m.taken ∷ m.place ∷ []

-- ---- a step over a row: its number, and the row and the log after it

pub record RowStep : Type 0 where
  pub number : ℕ
  pub row : List ℕ
  pub log : List ℕ

abbrev pub row_step : ℕ → List ℕ → List ℕ → RowStep
row_step n xs l = record { number = n; row = xs; log = l }

-- a row that stands for nothing is 14 where a wrong state is; a refusal leaves the row as it was lent
abbrev pub step_by : Option Machine → List ℕ → List ℕ → List ℕ → RowStep
step_by None xs p l = row_step (first_of (not_taken p true [])) xs l
step_by (Some m) xs p l =
    row_step (step_of m p l).number (pick (eqb (step_of m p l).number done) (row_of (step_of m p l).machine) xs) (log_of m p l)

unfoldable pub row_step_of : List ℕ → List ℕ → List ℕ → RowStep
row_step_of xs p l = step_by (machine_of xs) xs p l

-- ---- a run over a row: its number, the row and the log after it, and what is told of it

pub record RowRun : Type 0 where
  pub number : ℕ
  pub row : List ℕ
  pub log : List ℕ
  pub taken : ℕ
  pub ended : ℕ

abbrev pub row_run : ℕ → List ℕ → List ℕ → ℕ → ℕ → RowRun
row_run n xs l t e = record { number = n; row = xs; log = l; taken = t; ended = e }

-- a refusal leaves all as it was lent
abbrev pub run_by : Option Machine → List ℕ → List ℕ → List ℕ → ℕ → ℕ → RowRun
run_by None xs bs l t e = row_run (first_of (not_run bs true)) xs l t e
run_by (Some m) xs bs l t e =
    pick (eqb (report_of m bs l).number done)
    (row_run done (row_of (report_of m bs l).machine) (ran_log m bs l) (report_of m bs l).packets (report_of m bs l).ended)
    (row_run (report_of m bs l).number xs (ran_log m bs l) t e)

unfoldable pub row_run_of : List ℕ → List ℕ → List ℕ → ℕ → ℕ → RowRun
row_run_of xs bs l t e = run_by (machine_of xs) xs bs l t e

-- ---- cited by private functions alone

-- what a number is read as

abbrev pub mode_read : ℕ → Result Mode Refusal
mode_read n = pick (ltb 1 n) (Err OutOfRange) (Ok (mode_of n))

abbrev pub phase_read : ℕ → Result Phase Refusal
phase_read n = pick (ltb 2 n) (Err OutOfRange) (Ok (phase_of n))

abbrev pub last_read : ℕ → Option Last
last_read n = pick (no_last n) None (Some (last_of n))

abbrev pub again_read : ℕ → Result Repeat Refusal
again_read n = pick (ltb 2 n) (Err OutOfRange) (Ok (again_of n))

abbrev pub announced_read : ℕ → Option Bool
announced_read n = pick (ltb 1 n) None (Some (eqb n 1))
