-- The crate's theorems that belong to no one function: one answer only, and what the fourth byte says of the packet.
-- Assumes nothing.
use mathlib.Core.Path.{◌≡◌, refl, sym, ◌∙◌}
use mathlib.Core.Bool.{Bool}
use mathlib.Core.List.{List, [], ◌∷◌}
use Prim.Native.Nat.{ℕ}
use lib.ListN.{get_or}
use lib.Dec.{eqb}
use Rattle.std.specs.Prelude.{Result}
use Rattle.bits.specs.Answer.{Answer}
use Rattle.bits.specs.Field.{bit, field}
use Rattle.bits.specs.Refused.{given, no_values, flag_values, extent_values}
use Rattle.bits.specs.declared.Extent.{Extent}
use Rattle.bits.specs.declared.refusal.Refusal.{Refusal}
use Rattle.bits.proofs.Fields.{in_byte, truth-bit}
use Rattle.bits.proofs.Refusals.{given_one}
use Rattle.control.specs.declared.Pid.{Pid}
use Rattle.control.specs.declared.TransportScramblingControl.{TransportScramblingControl}
use Rattle.control.specs.declared.AdaptationControl.{AdaptationControl}
use Rattle.control.specs.declared.ContinuityCounter.{ContinuityCounter}
use Rattle.control.specs.Control.{has_adaptation_field, has_payload, scrambling, pid_values, counter_values}
use Rattle.packet.specs.Packet.{scrambling_values, control_values, adaptation_flag, payload_flag}

-- ---- one answer only: any two answers that meet a reader's promise are equal

abbrev value : List ℕ → ℕ
value vs = get_or vs 0 0

pub one-tried : (s : Answer) (a b : Result Unit Refusal) → given no_values a ≡ s → given no_values b ≡ s → a ≡ b
one-tried = given_one no_values (λ vs. tt) (λ u. refl)

pub one-flag : (s : Answer) (a b : Result Bool Refusal) → given flag_values a ≡ s → given flag_values b ≡ s → a ≡ b
one-flag = given_one flag_values (λ vs. eqb (value vs) 1) truth-bit

pub one-pid : (s : Answer) (a b : Result Pid Refusal) → given pid_values a ≡ s → given pid_values b ≡ s → a ≡ b
one-pid = given_one pid_values (λ vs. record { 0 = value vs }) (λ p. refl)

pub one-scrambling : (s : Answer) (a b : Result TransportScramblingControl Refusal)
    → given scrambling_values a ≡ s → given scrambling_values b ≡ s → a ≡ b
one-scrambling = given_one scrambling_values (λ vs. record { 0 = value vs }) (λ c. refl)

pub one-control : (s : Answer) (a b : Result AdaptationControl Refusal) → given control_values a ≡ s → given control_values b ≡ s → a ≡ b
one-control = given_one control_values (λ vs. record { 0 = value vs }) (λ c. refl)

pub one-counter : (s : Answer) (a b : Result ContinuityCounter Refusal) → given counter_values a ≡ s → given counter_values b ≡ s → a ≡ b
one-counter = given_one counter_values (λ vs. record { val = value vs }) (λ c. refl)

pub one-part : (s : Answer) (a b : Result Extent Refusal) → given extent_values a ≡ s → given extent_values b ≡ s → a ≡ b
one-part = given_one extent_values (λ vs. record { place = value vs; length = get_or vs 1 0 }) (λ e. refl)

-- ---- the control bits that the crate control reads off the fourth byte are the packet's

pub control-payload : (xs : List ℕ) → has_payload (get_or xs 3 0) ≡ payload_flag xs
unfolding has_payload payload_flag bit
control-payload xs = refl

pub control-adaptation : (xs : List ℕ) → has_adaptation_field (get_or xs 3 0) ≡ adaptation_flag xs
unfolding has_adaptation_field adaptation_flag bit
control-adaptation xs = refl

pub control-scrambling : (xs : List ℕ) → scrambling (get_or xs 3 0) ≡ field xs 24 2
unfolding scrambling
control-scrambling xs = in_byte (get_or xs 3 0 ∷ []) 0 0 2 6 refl ∙ sym (in_byte xs 3 0 2 6 refl)
