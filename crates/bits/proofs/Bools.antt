-- Truth values: tests joined by `pick`, as definitions write 'and', and by `||`, and tests given as numbers.
-- Assumes nothing.
use mathlib.Core.Path.{◌≡◌, refl, sym, ◌∙◌}
use mathlib.Core.Bool.{Bool, true, false, ◌||◌}
use Prim.Native.Nat.{ℕ, ◌%◌}
use native.Mathlib.Omega.{arith}
use Rattle.bits.specs.Answer.{pick, truth}

pub false_true : {A : Type 0} → false ≡ true → A
false_true e = let z : ◌≡◌ {A = ℕ} 0 1 = cc in absurd (omega arith)

-- a and b
pub both : (a b : Bool) → pick a b false ≡ true → (a ≡ true) × (b ≡ true)
both true b e = (refl, e)
both false b e = false_true e

pub not-both : (a b : Bool) → pick a b false ≡ false → a ≡ true → b ≡ false
not-both true b e h = e
not-both false b e h = false_true h

pub pick_same : {A : Type 0} (t : Bool) (a : A) → pick t a a ≡ a
pick_same true a = refl
pick_same false a = refl

-- what an answer r says, by how it was tested
pub tested : (r s t : Bool) → r ≡ s → r ≡ t → s ≡ t
tested r s t e f = sym e ∙ f

-- a test given as 1 or 0
pub is_true : (t : Bool) → 1 ≡ truth t → t ≡ true
is_true true e = refl
is_true false e = absurd (omega arith)

pub is_false : (t : Bool) → 0 ≡ truth t → t ≡ false
is_false true e = absurd (omega arith)
is_false false e = refl

-- a truth value is a bit
pub truth-mod : (b : Bool) → truth b % 2 ≡ truth b
truth-mod true = refl
truth-mod false = refl

-- ---- tests joined by `||`

-- neither a nor b
pub neither-holds : (a b : Bool) → (a || b) ≡ false → (a ≡ false) × (b ≡ false)
neither-holds true b e = false_true (sym e)
neither-holds false b e = (refl, e)
