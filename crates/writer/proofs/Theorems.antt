-- The crate's theorems that belong to no one function: one answer and one output only.
-- Assumes nothing.
use mathlib.Core.Path.{◌≡◌, refl, sym, ◌∙◌}
use mathlib.Core.List.{List}
use Prim.Native.Nat.{ℕ}
use lib.ListN.{get_or}
use Rattle.std.specs.Prelude.{Result}
use Rattle.bits.specs.Answer.{Answer}
use Rattle.bits.specs.Refused.{given, number_values}
use Rattle.bits.specs.declared.refusal.Refusal.{Refusal}
use Rattle.bits.proofs.Refusals.{given_one}
use Rattle.writer.specs.declared.Route.{Route}
use Rattle.writer.specs.declared.Unit.{Unit}
use Rattle.writer.specs.Writer.{write_of, output_of}

pub one_written : (s : Answer) (a b : Result ℕ Refusal) → given number_values a ≡ s → given number_values b ≡ s → a ≡ b
one_written = given_one number_values (λ vs. get_or vs 0 0) (λ n. refl)

-- the promise of `write`, of an answer and the bytes afterwards
abbrev pub Kept : Route → Unit → List ℕ → List ℕ → Result ℕ Refusal → List ℕ → Type 0
Kept r u payload out a after = (given number_values a ≡ write_of r u payload out) × (after ≡ output_of r u payload out)

-- any two answers with the bytes afterwards that keep it are equal
pub one-write : (r : Route) (u : Unit) (payload out : List ℕ) (a b : Result ℕ Refusal) (xs ys : List ℕ) → Kept r u payload out a xs
    → Kept r u payload out b ys → (a ≡ b) × (xs ≡ ys)
one-write r u payload out a b xs ys p q = (one_written (write_of r u payload out) a b p.0 q.0, p.1 ∙ sym q.1)
