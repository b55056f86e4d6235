-- The crate's theorems that belong to no one function: one answer only.
-- Assumes nothing.
use mathlib.Core.Path.{◌≡◌, refl, sym, ap, ◌∙◌}
use mathlib.Core.Bool.{Bool, true}
use mathlib.Core.List.{List}
use mathlib.Core.Logic.{◌↔◌}
use Prim.Native.Nat.{ℕ}
use native.Mathlib.Omega.{arith}
use lib.ListN.{get_or}
use lib.Dec.{eqb}
use Rattle.std.proofs.lemmas.Grind.{common_steps}
use Rattle.std.specs.Prelude.{Option, Some, None, Result}
use Rattle.bits.specs.Answer.{Answer, answer, pick}
use Rattle.bits.specs.Numbers.{done}
use Rattle.bits.specs.Refused.{given, number_values}
use Rattle.bits.specs.declared.refusal.Refusal.{Refusal}
use Rattle.bits.proofs.Refusals.{given_one}
use Rattle.bits.proofs.Tests.{one_answer, one_truth}
use Rattle.control.specs.declared.AdaptationControl.{AdaptationControl}
use Rattle.control.specs.declared.TransportScramblingControl.{TransportScramblingControl}
use Rattle.control.specs.declared.ClockRef.{ClockRef}
use Rattle.control.specs.declared.ContinuityCounter.{ContinuityCounter}
use Rattle.control.specs.declared.Pid.{Pid}
use Rattle.control.specs.contracts.ClockRefPartialEq.TheImpl as clock_eq
use Rattle.control.specs.Clock.{clock, clock_values, read_clock, make_clock, clock_number}
use Rattle.control.specs.Control.{scheme_values, read_scheme, counter_values, make_counter, counter_of, pid_values, make_pid, pid_of}

-- ---- the fourth byte: what keeps it is one value, as its one field is

pub one-adaptation-control : (byte : ℕ) (a b : AdaptationControl) → a.0 ≡ byte → b.0 ≡ byte → a ≡ b
one-adaptation-control byte a b p q = ap (λ (n : ℕ). record { 0 = n }) (p ∙ sym q)

pub one-scrambling-control : (byte : ℕ) (a b : TransportScramblingControl) → a.0 ≡ byte → b.0 ≡ byte → a ≡ b
one-scrambling-control byte a b p q = ap (λ (n : ℕ). record { 0 = n }) (p ∙ sym q)

scheme_back : Answer → Option ℕ
scheme_back s = pick (eqb (get_or s.values 0 0) 0) None (Some (get_or s.values 1 0))

scheme_back-given : (r : Option ℕ) → scheme_back (answer done (scheme_values r)) ≡ r
unfolding scheme_back
scheme_back-given None = refl
scheme_back-given (Some n) = refl

pub one-scheme : (byte : ℕ) (a b : Option ℕ)
    → answer done (scheme_values a) ≡ read_scheme byte → answer done (scheme_values b) ≡ read_scheme byte → a ≡ b
one-scheme byte = one_answer (λ r. answer done (scheme_values r)) scheme_back scheme_back-given (read_scheme byte)

-- ---- clock references

-- the clock reference that two values stand for
abbrev clock_back : List ℕ → ClockRef
clock_back vs = clock (get_or vs 0 0) (get_or vs 1 0)

pub one-clock-read : (xs : List ℕ) (a b : Result ClockRef Refusal)
    → given clock_values a ≡ read_clock xs → given clock_values b ≡ read_clock xs → a ≡ b
one-clock-read xs = given_one clock_values clock_back (λ c. refl) (read_clock xs)

pub one-clock-made : (x y : ℕ) (a b : Result ClockRef Refusal)
    → given clock_values a ≡ make_clock x y → given clock_values b ≡ make_clock x y → a ≡ b
one-clock-made x y = given_one clock_values clock_back (λ c. refl) (make_clock x y)

pub one-clock-number : (x y : ℕ) (a b : Result ℕ Refusal)
    → given number_values a ≡ clock_number x y → given number_values b ≡ clock_number x y → a ≡ b
one-clock-number x y = given_one number_values (λ vs. get_or vs 0 0) (λ n. refl) (clock_number x y)

-- two clock references are one exactly where `==` says so
pub same_clock : (c d : ClockRef) → ((clock_eq.ghosts).eq c d ≡ true) ↔ (c ≡ d)
same_clock c d = grind (arith, common_steps)

pub one_same : (c d : ClockRef) (a b : Bool) → (a ≡ true) ↔ (c ≡ d) → (b ≡ true) ↔ (c ≡ d) → a ≡ b
one_same c d = one_truth (c ≡ d)

-- ---- counters and PIDs

pub one-counter : (n : ℕ) (a b : Result ContinuityCounter Refusal)
    → given counter_values a ≡ make_counter n → given counter_values b ≡ make_counter n → a ≡ b
one-counter n = given_one counter_values (λ vs. record { val = get_or vs 0 0 }) (λ c. refl) (make_counter n)

pub one-counter_read : (byte : ℕ) (a b : ContinuityCounter) → a.val ≡ counter_of byte → b.val ≡ counter_of byte → a ≡ b
one-counter_read byte a b p q = ap (λ (n : ℕ). record { val = n }) (p ∙ sym q)

pub one-pid : (n : ℕ) (a b : Result Pid Refusal) → given pid_values a ≡ make_pid n → given pid_values b ≡ make_pid n → a ≡ b
one-pid n = given_one pid_values (λ vs. record { 0 = get_or vs 0 0 }) (λ p. refl) (make_pid n)

pub one-pid_read : (high low : ℕ) (a b : Pid) → a.0 ≡ pid_of high low → b.0 ≡ pid_of high low → a ≡ b
one-pid_read high low a b p q = ap (λ (n : ℕ). record { 0 = n }) (p ∙ sym q)
