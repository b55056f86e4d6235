-- At most p + s events, and one more where `more` says so; and the log that is enough for them.
-- Assumes nothing.
use mathlib.Core.Path.{◌≡◌, refl, ap}
use mathlib.Core.Bool.{Bool, true, false, ◌||◌}
use mathlib.Core.List.{List, [], ◌∷◌, ◌++◌}
use Prim.Native.Nat.{ℕ, zero, suc, ◌+◌, ◌-◌, ◌≤◌}
use native.Mathlib.Omega.{arith}
use lib.ListN.{length, get_or, length-append}
use lib.Seq.{sets, length-sets}
use lib.Dec.{eqb}
use Rattle.std.specs.Prelude.{Option, None, Some}
use Rattle.control.specs.declared.ContinuityCounter.{ContinuityCounter}
use Rattle.bits.specs.Answer.{pick, All}
use Rattle.bits.specs.Numbers.{done}
use Rattle.bits.proofs.Bools.{pick_same}
use Rattle.bits.proofs.Checks.{first_of-every}
use Rattle.packet.specs.Packet.{start_flag}
use Rattle.event_log.specs.Entry.{entries_bytes}
use Rattle.machine.specs.declared.Mode.{Mode}
use Rattle.machine.specs.declared.Mode.TheVariants.{Crate, Standard}
use Rattle.machine.specs.declared.Phase.{Phase}
use Rattle.machine.specs.declared.Phase.TheVariants.{Begin, Started, IgnoreRest}
use Rattle.machine.specs.declared.Continuity.{Continuity}
use Rattle.machine.specs.declared.Continuity.TheVariants.{GoesOn}
use Rattle.machine.specs.declared.Machine.{Machine}
use Rattle.machine.specs.Events.{State, continuity, due, announces, announcement, continued, events_of, next, run}
use Rattle.machine.specs.Step.{state_of, fresh, events_at, wrong_state, number_of, advanced, step_of, log_of}
use Rattle.machine.specs.Run.{packets_in, run_of, taken_of, report, not_run, run_number, report_of, start_flags}
use Rattle.machine.specs.History.{first}
use Rattle.machine.proofs.Counters.{on-first}
use Rattle.machine.proofs.History.{mode-stays}
use Rattle.machine.proofs.Laws.{never-full}
use Rattle.machine.proofs.Theorems.{begun-one, count-all, happened, events-are}
use Rattle.bounds.specs.Room.{in_unit, more, more_in, log_bytes, bytes_for, answers_of, NotFull}

-- ---- one packet

more-one : (mo : Mode) (a : Bool) (la : Option ContinuityCounter) (ph : Phase) → more mo a la ph ≤ 1
more-one Crate a la ph = omega arith
more-one Standard true la ph = omega arith
more-one Standard false None Begin = omega arith
more-one Standard false None Started = omega arith
more-one Standard false None IgnoreRest = omega arith
more-one Standard false (Some c) ph = omega arith

-- a StartStream that is given is not needed again
module _ (c : Continuity) (s : Bool) (ph : Phase) (i : ℕ) (p : List ℕ) (la : Option ContinuityCounter) (ph' : Phase) where
  -- where one more is needed
  by_one : length (announcement (due Standard c ph false s) i ++ happened c s ph i p) + more Standard (due Standard c ph false s) la ph' ≤ pick s 2 1 + 1
  by_one = go (due Standard c ph false s) (count-all Standard c ph false s i p)
    where
      go : (b : Bool) → length (announcement b i ++ happened c s ph i p) ≤ pick b 1 0 + pick s 2 1
          → length (announcement b i ++ happened c s ph i p) + more Standard b la ph' ≤ pick s 2 1 + 1
      go true h = omega (arith, h)
      go false h = omega (arith, h, more-one Standard false la ph')

-- the first packet of a stream, where no unit is open: a StartStream with it comes in place of another event
module _ (i : ℕ) (p : List ℕ) (la : Option ContinuityCounter) (ph' : Phase) where
  at_first : (s : Bool) (ph : Phase) → in_unit ph ≡ 0
      → length (announcement (due Standard GoesOn ph false s) i ++ happened GoesOn s ph i p) + more Standard (due Standard GoesOn ph false s) la ph' ≤ pick s 2 1
  unfolding announcement continued
  at_first true Begin h = omega (arith, begun-one i p)
  at_first true Started h = absurd (omega arith)
  at_first true IgnoreRest h = omega (arith, begun-one i p)
  at_first false Begin h = omega (arith, more-one Standard false la ph')
  at_first false Started h = absurd (omega arith)
  at_first false IgnoreRest h = omega (arith, more-one Standard false la ph')

  bounded : (mo : Mode) (a : Bool) (l : Option ContinuityCounter) (ph : Phase) (c : Continuity) (s : Bool) → (l ≡ None → c ≡ GoesOn)
      → length (announcement (due mo c ph a s) i ++ happened c s ph i p) + more mo (a || due mo c ph a s) la ph' ≤ pick s 2 1 + more mo a l ph
  bounded Crate a l ph c s h = omega (arith, count-all Crate c ph a s i p, pick_same {A = ℕ} (due Crate c ph a s) 0)
  bounded Standard true l ph c s h = omega (arith, count-all Standard c ph true s i p)
  bounded Standard false (Some k) ph c s h = omega (arith, by_one c s ph i p la ph')
  bounded Standard false None Begin c s h = rw (h refl) (omega (arith, at_first s Begin refl))
  bounded Standard false None Started c s h = omega (arith, by_one c s Started i p la ph')
  bounded Standard false None IgnoreRest c s h = rw (h refl) (omega (arith, at_first s IgnoreRest refl))

-- two events with the start flag and one without it, beside what `more` allows
pub at_most-more : (i : ℕ) (s : State) (p : List ℕ) → length (events_of i s p) + more_in (next s p) ≤ pick (start_flag p) 2 1 + more_in s
unfolding next announces
at_most-more i s p =
    rw (events-are i s p)
    (bounded i p (next s p).last (next s p).phase s.mode s.announced s.last s.phase (continuity s p) (start_flag p)
    (on-first s.mode s.last s.again p))

-- ---- packets

two_or-one : (s : Bool) → pick s 2 1 ≡ pick s 1 0 + 1
two_or-one true = refl
two_or-one false = refl

-- AT MOST ONE EVENT FOR EACH PACKET AND ONE FOR EACH START FLAG, and what `more` allows, from every state of both modes
pub events-bound : (i : ℕ) (s : State) (ps : List (List ℕ)) → length (run i s ps) ≤ length ps + start_flags ps + more_in s
unfolding run
events-bound i s [] = omega arith
events-bound i s (p ∷ ps) =
    simp length-append (omega (arith, at_most-more i s p, two_or-one (start_flag p), events-bound (suc i) (next s p) ps))

crate-none : (s : State) → s.mode ≡ Crate → more_in s ≡ 0
crate-none s m = rw m

-- so p + s from every state of the crate's mode ..
pub crate_bound : (i : ℕ) (s : State) (ps : List (List ℕ)) → s.mode ≡ Crate → length (run i s ps) ≤ length ps + start_flags ps
crate_bound i s ps m = omega (arith, events-bound i s ps, crate-none s m)

-- .. p + s + 1 from every state of the standard mode ..
pub standard_bound : (i : ℕ) (s : State) (ps : List (List ℕ)) → length (run i s ps) ≤ length ps + start_flags ps + 1
standard_bound i s ps = omega (arith, events-bound i s ps, more-one s.mode s.announced s.last s.phase)

-- .. and p + s from a stream's first packet on, in both modes
first-none : (mo : Mode) → more_in (first mo) ≡ 0
first-none Crate = refl
first-none Standard = refl

pub first-bound : (i : ℕ) (mo : Mode) (ps : List (List ℕ)) → length (run i (first mo) ps) ≤ length ps + start_flags ps
first-bound i mo ps = omega (arith, events-bound i (first mo) ps, first-none mo)

-- with no start flag the crate's mode gives fewer than p from there: its first packet has no event
pub without_start : (i : ℕ) (p : List ℕ) (ps : List (List ℕ)) → start_flags (p ∷ ps) ≡ 0 → length (run i (first Crate) (p ∷ ps)) ≤ length ps
unfolding run announcement announces continued
without_start i p ps h = rw (silent (start_flag p) refl) (omega (arith, crate_bound (suc i) (next (first Crate) p) ps (mode-stays (first Crate) p)))
  where
    silent : (b : Bool) → start_flag p ≡ b → events_of i (first Crate) p ≡ []
    silent true e = let z : ◌≡◌ {A = ℕ} 1 0 = omega (arith, ap (λ (b : Bool). pick {A = ℕ} b 1 0) e) in absurd (omega arith)
    silent false e = rw (events-are i (first Crate) p, on-first Crate _ _ p refl, e)

-- who does not know s takes p for it
pub starts-few : (ps : List (List ℕ)) → start_flags ps ≤ length ps
starts-few [] = omega arith
starts-few (p ∷ ps) = omega (arith, starts-few ps, one (start_flag p))
  where
    one : (b : Bool) → pick b 1 0 ≤ 1
    one true = omega arith
    one false = omega arith

-- ---- the log

-- WITH SO MANY FREE BYTES NO STEP ANSWERS 15, whatever the packets, the state and the place
pub steps_never-full : (ps : List (List ℕ)) (m : Machine) (l : List ℕ) → bytes_for (state_of m) ps ≤ length l - m.place → All NotFull (answers_of m ps l)
unfolding step_of log_of advanced
steps_never-full [] m l r = tt
steps_never-full (p ∷ ps) m l r =
    let k = at_most-more m.taken (state_of m) p in
    let j = two_or-one (start_flag p) in
    let n = length-sets l m.place (entries_bytes (events_at m p)) in (
      never-full m p l (omega (arith, k, j)),
      go (eqb (number_of m p l) 0)
          (steps_never-full ps (advanced m p) (sets l m.place (entries_bytes (events_at m p))) (omega (arith, k, j, n)))
          (steps_never-full ps m l (omega arith)),
    )
  where
    go : (b : Bool) → All NotFull (answers_of (advanced m p) ps (sets l m.place (entries_bytes (events_at m p)))) → All NotFull (answers_of m ps l)
        → All NotFull (answers_of (pick b (advanced m p) m) ps (pick b (sets l m.place (entries_bytes (events_at m p))) l))
    go true x y = x
    go false x y = y

-- a run ends with the answer of the step after those that it took: 0 where it took all
pub run_ends : (ps : List (List ℕ)) (m : Machine) (l : List ℕ) → get_or (answers_of m ps l) (taken_of m ps l) done ≡ (run_of m ps l).answer.number
run_ends [] m l = refl
run_ends (p ∷ ps) m l = go (eqb (step_of m p l).number done) (run_ends ps (step_of m p l).machine (log_of m p l))
  where
    go : (b : Bool) → get_or (answers_of (step_of m p l).machine ps (log_of m p l)) (taken_of (step_of m p l).machine ps (log_of m p l)) done ≡ (run_of (step_of m p l).machine ps (log_of m p l)).answer.number
        → get_or (answers_of m (p ∷ ps) l) (pick b (suc (taken_of (step_of m p l).machine ps (log_of m p l))) 0) done
        ≡ (pick b (run_of (step_of m p l).machine ps (log_of m p l)) (record { answer = step_of m p l; log = log_of m p l })).answer.number
    go true h = h
    go false h = refl

all_at : (P : ℕ → Type 0) (xs : List ℕ) (k d : ℕ) → P d → All P xs → P (get_or xs k d)
all_at P [] k d z h = z
all_at P (x ∷ xs) zero d z h = h.0
all_at P (x ∷ xs) (suc k) d z h = all_at P xs k d z h.1

zero-not : NotFull 0
zero-not e = omega arith

-- AND NO RUN ANSWERS 15 OR ENDS WITH IT
pub run-never-full : (m : Machine) (bytes l : List ℕ) → bytes_for (state_of m) (packets_in bytes) ≤ length l - m.place
    → NotFull (report_of m bytes l).number × NotFull (report_of m bytes l).ended
unfolding report_of run_number not_run
run-never-full m bytes l r =
    let x : NotFull (run_of m (packets_in bytes) l).answer.number
    = rw (← run_ends (packets_in bytes) m l)
    (all_at NotFull (answers_of m (packets_in bytes) l) (taken_of m (packets_in bytes) l) done zero-not (steps_never-full (packets_in bytes) m l r)) in
    let y : NotFull (run_number m bytes l) = first_of-every NotFull (not_run bytes (wrong_state m l)) zero-not (λ t e. omega arith, (λ t e. omega arith, tt)) in
    let o = (run_of m (packets_in bytes) l).answer in
    go (eqb (run_number m bytes l) done) (taken_of m (packets_in bytes) l) o.number o.machine x y
  where
    go : (b : Bool) (k e : ℕ) (a : Machine) → NotFull e → NotFull (run_number m bytes l)
        → NotFull (pick b (report done k e a) (report (run_number m bytes l) 0 done m)).number
        × NotFull (pick b (report done k e a) (report (run_number m bytes l) 0 done m)).ended
    go true k e a x y = (zero-not, x)
    go false k e a x y = (y, zero-not)

-- ---- the same by modes: 8 × (p + s) FREE BYTES ..

module _ (m : Machine) (l : List ℕ) where
  -- .. ARE ENOUGH FROM EVERY STATE OF THE CRATE'S MODE
  pub crate_steps_never-full : (ps : List (List ℕ)) → m.mode ≡ Crate → log_bytes (length ps) (start_flags ps) ≤ length l - m.place → All NotFull (answers_of m ps l)
  crate_steps_never-full ps c r = steps_never-full ps m l (omega (arith, crate-none (state_of m) c))

  pub crate-run-never-full : (bytes : List ℕ) → m.mode ≡ Crate → log_bytes (length (packets_in bytes)) (start_flags (packets_in bytes)) ≤ length l - m.place
      → NotFull (report_of m bytes l).ended
  crate-run-never-full bytes c r = (run-never-full m bytes l (omega (arith, crate-none (state_of m) c))).1

  -- .. AND WITH 8 MORE FROM EVERY STATE OF BOTH
  pub standard_steps_never-full : (ps : List (List ℕ)) → log_bytes (length ps) (start_flags ps) + 8 ≤ length l - m.place → All NotFull (answers_of m ps l)
  standard_steps_never-full ps r = steps_never-full ps m l (omega (arith, more-one m.mode m.announced m.last m.phase))

  pub standard-run-never-full : (bytes : List ℕ) → log_bytes (length (packets_in bytes)) (start_flags (packets_in bytes)) + 8 ≤ length l - m.place
      → NotFull (report_of m bytes l).ended
  standard-run-never-full bytes r = (run-never-full m bytes l (omega (arith, more-one m.mode m.announced m.last m.phase))).1

-- .. AND ARE ENOUGH FROM A STREAM'S FIRST PACKET ON, in both modes
module _ (mo : Mode) (l : List ℕ) where
  pub fresh-steps_never-full : (ps : List (List ℕ)) → log_bytes (length ps) (start_flags ps) ≤ length l → All NotFull (answers_of (fresh mo) ps l)
  fresh-steps_never-full ps r = steps_never-full ps (fresh mo) l (omega (arith, first-none mo))

  pub fresh-run-never-full : (bytes : List ℕ) → log_bytes (length (packets_in bytes)) (start_flags (packets_in bytes)) ≤ length l → NotFull (report_of (fresh mo) bytes l).ended
  fresh-run-never-full bytes r = (run-never-full (fresh mo) bytes l (omega (arith, first-none mo))).1
