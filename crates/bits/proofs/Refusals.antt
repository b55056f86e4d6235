-- A result is known by what it tells: a refusal by its number and the values named with it, what was accepted by its values.
-- Assumes nothing.
use mathlib.Core.Bool.{Bool, true, false}
use mathlib.Core.Path.{◌≡◌, refl, sym, ap, ◌∙◌}
use mathlib.Core.List.{List}
use Prim.Native.Nat.{ℕ, zero, suc, ◌<◌}
use native.Mathlib.Omega.{arith}
use lib.Dec.{eqb}
use lib.ListN.{get_or}
use Rattle.std.specs.Prelude.{Result, Ok, Err}
use Rattle.bits.proofs.Tests.{given-injective, one_answer}
use Rattle.bits.specs.Answer.{Answer, pick, limited}
use Rattle.bits.specs.Refused.{refused, given}
use Rattle.bits.specs.declared.refusal.Refusal.{Refusal}
use Rattle.bits.specs.declared.refusal.Refusal.TheVariants.{WrongLength, NoSync, ShortHeader, BadStartCode, ShortContents, BadCheckBits}
use Rattle.bits.specs.declared.refusal.Refusal.TheVariants.{HeaderPastBuffer, FieldsPastHeader, FieldNotPresent, PtsDtsFlagsInvalid, NotEnoughData}
use Rattle.bits.specs.declared.refusal.Refusal.TheVariants.{MarkerBitNotSet, IncorrectPrefixBits, OutOfRange, LogFull, IndexFull, BadField, TooLong}
use Rattle.bits.specs.declared.refusal.Refusal.TheVariants.{NoRoom, StoreFull}

-- the refusal of a number and values
unfoldable pub back_refusal : Answer → Refusal
back_refusal s =
    pick (eqb s.number 1) WrongLength
    (pick (eqb s.number 2) NoSync
    (pick (eqb s.number 3) ShortHeader
    (pick (eqb s.number 4) BadStartCode
    (pick (eqb s.number 5) ShortContents
    (pick (eqb s.number 6) BadCheckBits
    (pick (eqb s.number 7) HeaderPastBuffer
    (pick (eqb s.number 8) FieldsPastHeader
    (pick (eqb s.number 9) FieldNotPresent
    (pick (eqb s.number 10) PtsDtsFlagsInvalid
    (pick (eqb s.number 11) NotEnoughData
    (pick (eqb s.number 12) (MarkerBitNotSet (get_or s.values 0 0))
    (pick (eqb s.number 13) (IncorrectPrefixBits (get_or s.values 0 0) (get_or s.values 1 0))
    (pick (eqb s.number 14) OutOfRange
    (pick (eqb s.number 15) LogFull
    (pick (eqb s.number 16) IndexFull
    (pick (eqb s.number 17) BadField
    (pick (eqb s.number 18) TooLong
    (pick (eqb s.number 19) NoRoom
    StoreFull))))))))))))))))))

pub back_refusal-refused : (r : Refusal) → back_refusal (refused r) ≡ r
unfolding back_refusal
back_refusal-refused WrongLength = refl
back_refusal-refused NoSync = refl
back_refusal-refused ShortHeader = refl
back_refusal-refused BadStartCode = refl
back_refusal-refused ShortContents = refl
back_refusal-refused BadCheckBits = refl
back_refusal-refused HeaderPastBuffer = refl
back_refusal-refused FieldsPastHeader = refl
back_refusal-refused FieldNotPresent = refl
back_refusal-refused PtsDtsFlagsInvalid = refl
back_refusal-refused NotEnoughData = refl
back_refusal-refused (MarkerBitNotSet b) = refl
back_refusal-refused (IncorrectPrefixBits e a) = refl
back_refusal-refused OutOfRange = refl
back_refusal-refused LogFull = refl
back_refusal-refused IndexFull = refl
back_refusal-refused BadField = refl
back_refusal-refused TooLong = refl
back_refusal-refused NoRoom = refl
back_refusal-refused StoreFull = refl

-- no refusal has the number of what is accepted
pub refused-not_done : {B : Type 0} (r : Refusal) (x y : B) → pick (eqb (refused r).number 0) x y ≡ y
refused-not_done WrongLength x y = refl
refused-not_done NoSync x y = refl
refused-not_done ShortHeader x y = refl
refused-not_done BadStartCode x y = refl
refused-not_done ShortContents x y = refl
refused-not_done BadCheckBits x y = refl
refused-not_done HeaderPastBuffer x y = refl
refused-not_done FieldsPastHeader x y = refl
refused-not_done FieldNotPresent x y = refl
refused-not_done PtsDtsFlagsInvalid x y = refl
refused-not_done NotEnoughData x y = refl
refused-not_done (MarkerBitNotSet b) x y = refl
refused-not_done (IncorrectPrefixBits e a) x y = refl
refused-not_done OutOfRange x y = refl
refused-not_done LogFull x y = refl
refused-not_done IndexFull x y = refl
refused-not_done BadField x y = refl
refused-not_done TooLong x y = refl
refused-not_done NoRoom x y = refl
refused-not_done StoreFull x y = refl

pub refused_above : (r : Refusal) → 0 < (refused r).number
refused_above r = go (refused r).number (refused-not_done r 1 0)
  where
    go : (n : ℕ) → ◌≡◌ {A = ℕ} (pick (eqb n 0) 1 0) 0 → 0 < n
    go zero e = absurd (omega arith)
    go (suc n) e = omega arith

-- a test that refuses one list of values refuses every other
pub limited-refusal : (t : Bool) (us vs : List ℕ) (r : Refusal) → refused r ≡ limited t us → refused r ≡ limited t vs
limited-refusal false us vs r e = e
limited-refusal true us vs r e =
    let z : ◌≡◌ {A = ℕ} 1 0 = sym (refused-not_done r 0 1) ∙ ap (λ (a : Answer). pick (eqb a.number 0) 0 1) e in absurd (omega arith)

-- values that tell what was accepted tell the result
module _ {A : Type 0} (f : A → List ℕ) (back : List ℕ → A) (back-values : (x : A) → back (f x) ≡ x) where
  back_result : Answer → Result A Refusal
  back_result s = pick (eqb s.number 0) (Ok (back s.values)) (Err (back_refusal s))

  back_result-given : (r : Result A Refusal) → back_result (given f r) ≡ r
  unfolding back_result
  back_result-given (Ok x) = ap Ok (back-values x)
  back_result-given (Err r) = refused-not_done r (Ok (back (refused r).values)) (Err (back_refusal (refused r))) ∙ ap Err (back_refusal-refused r)

  -- no two results tell the same
  pub given-tells : (a b : Result A Refusal) → given f a ≡ given f b → a ≡ b
  given-tells = given-injective (given f) back_result back_result-given

  -- a promise of what a result tells leaves one result only
  pub given_one : (s : Answer) (a b : Result A Refusal) → given f a ≡ s → given f b ≡ s → a ≡ b
  given_one = one_answer (given f) back_result back_result-given
