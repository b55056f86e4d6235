-- What the definitions of `specs/` come to on the bytes, in each case. The functions' proofs are found by `control_laws`, where each premise is a
-- test or a promise that a need is handed and the answer is as the code computes it. Callers' proofs cite them too.
-- Assumes nothing.
use mathlib.Core.Path.{◌≡◌, refl, sym, ap, ◌∙◌}
use mathlib.Core.Bool.{Bool, true, false, not}
use mathlib.Core.List.{List, [], ◌∷◌}
use Prim.Native.Nat.{ℕ, ◌+◌, ◌*◌, ◌/◌, ◌%◌, ◌^◌, ◌≤◌, ◌<◌}
use native.Mathlib.Omega.{arith}
use lib.ListN.{length, get_or}
use lib.Dec.{eqb, ltb}
use borrow.Author.Tests.{lt-ltb, le-ltb, eq-eqb, ne_eqb, eqb-true}
use Rattle.bits.specs.Answer.{answer, pick}
use Rattle.bits.specs.Field.{bit, field}
use Rattle.bits.proofs.Fields.{field-split, in_byte}
use Rattle.bits.proofs.Tests.{limited-in, limited-out, limited-values, limited-value, limited-refused}
use Rattle.control.specs.declared.ClockRef.{ClockRef}
use Rattle.control.specs.declared.Compared.{Compared}
use Rattle.control.specs.declared.Compared.TheVariants.{Next, Same, Jump}
use Rattle.control.specs.contracts.ComparedPartialEq.TheImpl as compared_eq
use Rattle.control.specs.Clock.{clock, clock_values, clock_base, clock_extension, clock_fits, read_clock, make_clock, clock_number}
use Rattle.control.specs.Control.{has_adaptation_field, has_payload, scrambling, is_scrambled, read_scheme, compare, is_same, follows, make_counter, counter_of}
use Rattle.control.specs.Control.{make_pid, pid_of}

-- the fourth byte
module _ (b : ℕ) where
  pub payload-bit : eqb (b / 16 % 2) 1 ≡ has_payload b
  unfolding has_payload bit
  payload-bit = refl

  pub adaptation-bit : eqb (b / 32 % 2) 1 ≡ has_adaptation_field b
  unfolding has_adaptation_field bit
  adaptation-bit = refl

  pub scrambling-is : b < 256 → scrambling b ≡ b / 64
  unfolding scrambling
  scrambling-is h = omega (arith, in_byte (b ∷ []) 0 0 2 6 refl)

  pub scrambled-is : b < 256 → not (eqb (b / 64) 0) ≡ is_scrambled b
  unfolding is_scrambled
  scrambled-is h = ap (λ (n : ℕ). not (eqb n 0)) (sym (scrambling-is h))

  pub scheme-none : b < 256 → b / 64 ≡ 0 → answer 0 (0 ∷ []) ≡ read_scheme b
  unfolding read_scheme
  scheme-none h z = simp (eq-eqb (scrambling b) 0 (scrambling-is h ∙ z))

  pub scheme-some : b < 256 → (b / 64 ≡ 0 → ⊥) → answer 0 (1 ∷ (b / 64) ∷ []) ≡ read_scheme b
  unfolding read_scheme
  scheme-some h z = simp (scrambling-is h, ne_eqb (b / 64) 0 z)

-- a counter beside another
module _ (a b : ℕ) where
  next-on : (b % 16 + 1) % 16 ≡ a → follows a b ≡ true
  unfolding follows
  next-on h = eq-eqb ((b + 1) % 2 ^ 4) a (omega (arith, h))

  next-off : ((b % 16 + 1) % 16 ≡ a → ⊥) → follows a b ≡ false
  unfolding follows
  next-off h = ne_eqb ((b + 1) % 2 ^ 4) a (λ e. h (omega (arith, e)))

  pub compared-next : (b % 16 + 1) % 16 ≡ a → Next ≡ compare a b
  unfolding compare
  compared-next h = simp (next-on h)

  module _ (h₁ : (b % 16 + 1) % 16 ≡ a → ⊥) where
    pub compared_same : a ≡ b → Same ≡ compare a b
    unfolding compare
    compared_same h = simp (next-off h₁, eq-eqb a b h)

    pub compared_jump : (a ≡ b → ⊥) → Jump ≡ compare a b
    unfolding compare
    compared_jump h = simp (next-off h₁, ne_eqb a b h)

-- the next counter is the one that follows
pub next-follows : (k : Compared) (a b : ℕ) → k ≡ compare a b → (compared_eq.ghosts).eq k Next ≡ follows a b
unfolding compare
next-follows k a b e = rw e (go (follows a b) (eqb a b))
  where
    go : (f e : Bool) → (compared_eq.ghosts).eq (pick f Next (pick e Same Jump)) Next ≡ f
    go true e = refl
    go false true = refl
    go false false = refl

-- a counter that follows another is not the same, and the same one is equal
pub apart : (a b : ℕ) → follows a b ≡ true → eqb a b ≡ false
unfolding follows
apart a b h = ne_eqb a b (λ e. omega (arith, eqb-true ((b + 1) % 2 ^ 4) a h))

pub same_equal : (a b : ℕ) → is_same (compare a b) ≡ eqb a b
unfolding compare
same_equal a b = go (follows a b) (eqb a b) (apart a b)
  where
    go : (f e : Bool) → (f ≡ true → e ≡ false) → is_same (pick f Next (pick e Same Jump)) ≡ e
    go true e h = sym (h refl)
    go false true h = refl
    go false false h = refl

-- clock references
module _ (xs : List ℕ) where
  -- in two steps: with all bytes at once the equation has too many unknowns for `omega`
  upper : field xs 0 16 ≡ get_or xs 0 0 % 256 * 2 ^ 8 + get_or xs 1 0 % 256
  upper = omega (arith, field-split xs 0 8 8, in_byte xs 0 0 8 0 refl, in_byte xs 1 0 8 0 refl)

  lower : field xs 16 17 ≡ get_or xs 2 0 % 256 * 2 ^ 9 + (get_or xs 3 0 % 256 * 2 + get_or xs 4 0 / 128 % 2)
  lower = omega (arith, field-split xs 16 8 9, field-split xs 24 8 1, in_byte xs 2 0 8 0 refl, in_byte xs 3 0 8 0 refl, in_byte xs 4 0 1 7 refl)

  pub base_of : clock_base xs ≡ (get_or xs 0 0 % 256 * 2 ^ 25 + get_or xs 1 0 % 256 * 2 ^ 17) + (get_or xs 2 0 % 256 * 2 ^ 9 + (get_or xs 3 0 % 256 * 2 + get_or xs 4 0 / 128 % 2))
  unfolding clock_base
  base_of = field-split xs 0 16 17 ∙ rw (upper, lower) (omega arith)

  pub extension_of : clock_extension xs ≡ get_or xs 4 0 % 2 * 256 + get_or xs 5 0 % 256
  unfolding clock_extension
  extension_of = omega (arith, field-split xs 39 1 8, in_byte xs 4 7 1 0 refl, in_byte xs 5 0 8 0 refl)

  pub clock-short : length xs < 6 → answer 1 [] ≡ read_clock xs
  unfolding read_clock
  clock-short h = simp (lt-ltb (length xs) 6 h)

  pub clock-done : (a b c d e f : ℕ) → 6 ≤ length xs → (a ≡ get_or xs 0 0) × (a < 256) → (b ≡ get_or xs 1 0) × (b < 256) → (c ≡ get_or xs 2 0) × (c < 256)
      → (d ≡ get_or xs 3 0) × (d < 256) → (e ≡ get_or xs 4 0) × (e < 256) → (f ≡ get_or xs 5 0) × (f < 256)
      → answer 0 ((a * 2 ^ 25 + b * 2 ^ 17 + c * 2 ^ 9 + d * 2 + e / 128) ∷ (e % 2 * 256 + f) ∷ []) ≡ read_clock xs
  unfolding read_clock
  clock-done a b c d e f h i j k l m n =
      let p : a * 2 ^ 25 + b * 2 ^ 17 + c * 2 ^ 9 + d * 2 + e / 128 ≡ clock_base xs = sym (base_of ∙ omega arith) in
      let q : e % 2 * 256 + f ≡ clock_extension xs = omega (arith, extension_of) in
      simp (le-ltb (length xs) 6 h, p, q)

-- six bytes hold a clock reference, and are never refused
pub clock-there : (xs : List ℕ) → 6 ≤ length xs → read_clock xs ≡ answer 0 (clock_base xs ∷ clock_extension xs ∷ [])
unfolding read_clock
clock-there xs h = simp (le-ltb (length xs) 6 h)

fits_in : (b e : ℕ) → (b < 2 ^ 33) × (e < 2 ^ 9) → clock_fits b e ≡ true
fits_in b e h = simp (lt-ltb b (2 ^ 33) h.0, lt-ltb e (2 ^ 9) h.1)

base_out : (b e : ℕ) → 2 ^ 33 ≤ b → clock_fits b e ≡ false
base_out b e h = simp (le-ltb b (2 ^ 33) h)

extension_out : (b e : ℕ) → (b < 2 ^ 33) × (2 ^ 9 ≤ e) → clock_fits b e ≡ false
extension_out b e h = simp (lt-ltb b (2 ^ 33) h.0, le-ltb e (2 ^ 9) h.1)

module _ (b e : ℕ) where
  pub made : (b < 2 ^ 33) × (e < 2 ^ 9) → answer 0 (b ∷ e ∷ []) ≡ make_clock b e
  unfolding make_clock
  made h = simp (fits_in b e h)

  pub made_base_out : 2 ^ 33 ≤ b → answer 14 [] ≡ make_clock b e
  unfolding make_clock
  made_base_out h = simp (base_out b e h)

  pub made_extension_out : (b < 2 ^ 33) × (2 ^ 9 ≤ e) → answer 14 [] ≡ make_clock b e
  unfolding make_clock
  made_extension_out h = simp (extension_out b e h)

  pub number_in : (b < 2 ^ 33) × (e < 2 ^ 9) → answer 0 ((b * 300 + e) ∷ []) ≡ clock_number b e
  unfolding clock_number
  number_in h = simp (fits_in b e h)

  pub number-base_out : 2 ^ 33 ≤ b → answer 14 [] ≡ clock_number b e
  unfolding clock_number
  number-base_out h = simp (base_out b e h)

  pub number-extension_out : (b < 2 ^ 33) × (2 ^ 9 ≤ e) → answer 14 [] ≡ clock_number b e
  unfolding clock_number
  number-extension_out h = simp (extension_out b e h)

  -- a clock reference that was made has the values that it was made of
  pub clock-made : (c : ClockRef) → answer 0 (clock_values c) ≡ make_clock b e → c ≡ clock b e
  unfolding make_clock
  clock-made c p = ap (λ (vs : List ℕ). clock (get_or vs 0 0) (get_or vs 1 0)) (limited-values (clock_fits b e) (clock_values c) (b ∷ e ∷ []) p)

  -- one that is not made has no number, and the number of one that is made is that of its values
  pub number-refused : answer 14 [] ≡ make_clock b e → clock_number b e ≡ answer 14 []
  unfolding make_clock clock_number
  number-refused p = limited-refused (clock_fits b e) (b ∷ e ∷ []) _ p

  pub number_of_lem : (c : ClockRef) → answer 0 (clock_values c) ≡ make_clock b e → clock_number c.base c.extension ≡ clock_number b e
  number_of_lem c p = ap (λ (k : ClockRef). clock_number k.base k.extension) (clock-made c p)

-- counters and PIDs
pub counter-is : (b : ℕ) → b % 16 ≡ counter_of b
unfolding counter_of
counter-is b = omega (arith, in_byte (b ∷ []) 0 4 4 0 refl)

pub pid-is : (h l : ℕ) → l < 256 → h % 32 * 256 + l ≡ pid_of h l
unfolding pid_of
pid-is h l b = omega (arith, field-split (h ∷ l ∷ []) 3 5 8, in_byte (h ∷ l ∷ []) 0 3 5 0 refl, in_byte (h ∷ l ∷ []) 1 0 8 0 refl)

pub counter_in : (n : ℕ) → n < 16 → answer 0 (n ∷ []) ≡ make_counter n
unfolding make_counter
counter_in n h = limited-in n (2 ^ 4) (n ∷ []) h

pub counter_out : (n : ℕ) → 16 ≤ n → answer 14 [] ≡ make_counter n
unfolding make_counter
counter_out n h = limited-out n (2 ^ 4) (n ∷ []) h

pub counter_made : (v x : ℕ) → answer 0 (x ∷ []) ≡ make_counter v → x ≡ v
unfolding make_counter
counter_made v x p = limited-value (ltb v (2 ^ 4)) x v p

pub pid_in : (n : ℕ) → n < 8192 → answer 0 (n ∷ []) ≡ make_pid n
unfolding make_pid
pid_in n h = limited-in n (2 ^ 13) (n ∷ []) h

pub pid_out : (n : ℕ) → 8192 ≤ n → answer 14 [] ≡ make_pid n
unfolding make_pid
pid_out n h = limited-out n (2 ^ 13) (n ∷ []) h

pub ruleset byte_laws = (payload-bit, adaptation-bit, scrambled-is, scheme-none, scheme-some, counter-is, pid-is)

pub ruleset compared_laws = (compared-next, compared_same, compared_jump, next-follows)

pub ruleset clock_laws = (clock-short, clock-done, made, made_base_out, made_extension_out, number_in, number-base_out, number-extension_out)

pub ruleset control_laws = (byte_laws, compared_laws, clock_laws, counter_in, counter_out, pid_in, pid_out)
