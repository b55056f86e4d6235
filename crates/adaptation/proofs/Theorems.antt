-- The crate's theorems that belong to no one function: one answer only.
-- Readers share their answers' types, so each theorem is over any right side: with `read_pcr xs` for `s` it is that of `pcr`.
-- Assumes nothing.
use mathlib.Core.Path.{◌≡◌, refl}
use mathlib.Core.Bool.{Bool}
use mathlib.Core.List.{List}
use Prim.Native.Nat.{ℕ}
use lib.ListN.{get_or}
use lib.Dec.{eqb}
use Rattle.std.specs.Prelude.{Option, Some, None, Result}
use Rattle.bits.specs.Answer.{Answer, pick}
use Rattle.bits.specs.Refused.{given, number_values, flag_values, extent_values}
use Rattle.bits.specs.declared.Extent.{Extent}
use Rattle.bits.specs.declared.refusal.Refusal.{Refusal}
use Rattle.bits.proofs.Fields.{truth-bit}
use Rattle.bits.proofs.Refusals.{given_one}
use Rattle.control.specs.declared.ClockRef.{ClockRef}
use Rattle.control.specs.Clock.{clock, clock_values}
use Rattle.adaptation.specs.declared.extension.SeamlessSplice.{SeamlessSplice}
use Rattle.adaptation.specs.Extension.{ltw_values, splice_values}

pub one-flag : (s : Answer) (a b : Result Bool Refusal) → given flag_values a ≡ s → given flag_values b ≡ s → a ≡ b
one-flag = given_one flag_values (λ vs. eqb (get_or vs 0 0) 1) truth-bit

pub one-clock : (s : Answer) (a b : Result ClockRef Refusal) → given clock_values a ≡ s → given clock_values b ≡ s → a ≡ b
one-clock = given_one clock_values (λ vs. clock (get_or vs 0 0) (get_or vs 1 0)) (λ c. refl)

pub one_byte : (s : Answer) (a b : Result ℕ Refusal) → given number_values a ≡ s → given number_values b ≡ s → a ≡ b
one_byte = given_one number_values (λ vs. get_or vs 0 0) (λ n. refl)

pub one-part : (s : Answer) (a b : Result Extent Refusal) → given extent_values a ≡ s → given extent_values b ≡ s → a ≡ b
one-part = given_one extent_values (λ vs. record { place = get_or vs 0 0; length = get_or vs 1 0 }) (λ e. refl)

-- the time window of its values
ltw_back : List ℕ → Option ℕ
ltw_back vs = pick (eqb (get_or vs 0 0) 1) (Some (get_or vs 1 0)) None

ltw_back-values : (w : Option ℕ) → ltw_back (ltw_values w) ≡ w
unfolding ltw_back
ltw_back-values None = refl
ltw_back-values (Some n) = refl

pub one-ltw : (s : Answer) (a b : Result (Option ℕ) Refusal) → given ltw_values a ≡ s → given ltw_values b ≡ s → a ≡ b
one-ltw = given_one ltw_values ltw_back ltw_back-values

pub one-rate : (s : Answer) (a b : Result ℕ Refusal) → given number_values a ≡ s → given number_values b ≡ s → a ≡ b
one-rate = one_byte

pub one-splice : (s : Answer) (a b : Result SeamlessSplice Refusal) → given splice_values a ≡ s → given splice_values b ≡ s → a ≡ b
one-splice = given_one splice_values (λ vs. record { splice_type = get_or vs 0 0; dts_next_au = record { val = get_or vs 1 0 } }) (λ t. refl)
