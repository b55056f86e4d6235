-- The crate's theorems that belong to no one function.
-- Assumes nothing.
use mathlib.Core.Path.{◌≡◌, sym, ◌∙◌}
use mathlib.Core.List.{List}
use Prim.Native.Nat.{ℕ}
use Rattle.bits.specs.Answer.{Answer}
use Rattle.host.specs.Reports.{Reports}

-- an answer is reported in one way only: any two words, and any two lists of out numbers, that meet an entry's promise are equal
pub one-report : (a : Answer) (lent : List ℕ) (v w : ℕ) (left left' : List ℕ) → Reports a v lent left → Reports a w lent left' → (v ≡ w) × (left ≡ left')
one-report a lent v w left left' p q = (p.number ∙ sym q.number, p.numbers ∙ sym q.numbers)
