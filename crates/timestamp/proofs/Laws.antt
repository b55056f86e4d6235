-- What the definitions of `specs/Stamp.antt` come to on the bytes, in each case. The functions' proofs are found by `timestamp_laws`, where each
-- premise is a test or a promise that a need is handed and the answer is as the code computes it. Callers' proofs cite them too.
-- Assumes nothing.
use mathlib.Core.Path.{◌≡◌, refl, sym, ap, ◌∙◌}
use mathlib.Core.Bool.{Bool, true, false}
use mathlib.Core.List.{List, [], ◌∷◌}
use Prim.Native.Nat.{ℕ, ◌+◌, ◌-◌, ◌*◌, ◌/◌, ◌%◌, ◌^◌, ◌≤◌, ◌<◌}
use native.Mathlib.Omega.{arith}
use lib.ListN.{length, get_or}
use lib.Dec.{eqb, leb, ltb}
use mir.Val.{Fits}
use mir.Syntax.{w8}
use borrow.Author.Tests.{lt-ltb, le-ltb, le-leb, lt-leb, eq-eqb, ne_eqb}
use Rattle.bits.specs.Answer.{Answer, answer, pick}
use Rattle.bits.specs.Field.{bit, field}
use Rattle.bits.proofs.Fields.{field-split, in_byte}
use Rattle.bits.proofs.Tests.{limited-in, limited-out, limited-value}
use Rattle.timestamp.specs.Stamp.{stamp_value, read_stamp, read_prefixed, likely_wrapped, make_stamp}

-- the value, out of the five bytes
pub value_of : (xs : List ℕ) → stamp_value xs ≡ get_or xs 0 0 / 2 % 8 * 2 ^ 30
    + (get_or xs 1 0 % 256 * 128 + get_or xs 2 0 / 2 % 128) * 2 ^ 15
    + (get_or xs 3 0 % 256 * 128 + get_or xs 4 0 / 2 % 128)
unfolding stamp_value
value_of xs =
    omega (
      arith,
      in_byte xs 0 4 3 1 refl,
      field-split xs 8 8 7,
      in_byte xs 1 0 8 0 refl,
      in_byte xs 2 0 7 1 refl,
      field-split xs 24 8 7,
      in_byte xs 3 0 8 0 refl,
      in_byte xs 4 0 7 1 refl,
    )

-- the top three bits of the value: one in the upper half, two in the lower
top_three : (a : ℕ) → a / 2 % 8 ≡ a / 8 % 2 * 4 + a / 2 % 4
top_three a = omega arith

-- reading with no look at the prefix; the value by its two halves, the lower of 32 bits, whose parts come as `wide_u32` gives them
module _ (xs : List ℕ) where
  pub stamp-short : length xs < 5 → answer 1 [] ≡ read_stamp xs
  unfolding read_stamp
  stamp-short h = simp (lt-ltb (length xs) 5 h)

  module _ (h : 5 ≤ length xs) where
    pub stamp-marker_7 : get_or xs 0 0 % 2 ≡ 0 → answer 12 (7 ∷ []) ≡ read_stamp xs
    unfolding read_stamp bit
    stamp-marker_7 z = simp (le-ltb (length xs) 5 h, eq-eqb (bit xs 7) 0 (omega arith))

    module _ (p : get_or xs 0 0 % 2 ≡ 0 → ⊥) where
      pub stamp-marker_23 : get_or xs 2 0 % 2 ≡ 0 → answer 12 (23 ∷ []) ≡ read_stamp xs
      unfolding read_stamp bit
      stamp-marker_23 z = simp (le-ltb (length xs) 5 h, ne_eqb (bit xs 7) 0 (omega arith), eq-eqb (bit xs 23) 0 (omega arith))

      module _ (q : get_or xs 2 0 % 2 ≡ 0 → ⊥) where
        pub stamp-marker_39 : get_or xs 4 0 % 2 ≡ 0 → answer 12 (39 ∷ []) ≡ read_stamp xs
        unfolding read_stamp bit
        stamp-marker_39 z =
            simp (le-ltb (length xs) 5 h, ne_eqb (bit xs 7) 0 (omega arith), ne_eqb (bit xs 23) 0 (omega arith), eq-eqb (bit xs 39) 0 (omega arith))

        pub stamp-done : (get_or xs 4 0 % 2 ≡ 0 → ⊥) → (u t b c d e : ℕ) → (u ≡ get_or xs 0 0 / 8 % 2) × (u < 256) → (t ≡ get_or xs 0 0 / 2 % 4) × (t < 256)
            → (b ≡ get_or xs 1 0) × (b < 256) → (c ≡ get_or xs 2 0) × (c < 256) → (d ≡ get_or xs 3 0) × (d < 256) → (e ≡ get_or xs 4 0) × (e < 256)
            → answer 0 ((u * 2 ^ 32 + (e / 2 + d * 128 + c / 2 * 2 ^ 15 + b * 2 ^ 22 + t * 2 ^ 30)) ∷ []) ≡ read_stamp xs
        unfolding read_stamp bit
        stamp-done r u t b c d e hu ht hb hc hd he =
            let v : u * 2 ^ 32 + (e / 2 + d * 128 + c / 2 * 2 ^ 15 + b * 2 ^ 22 + t * 2 ^ 30) ≡ stamp_value xs
            = sym (value_of xs ∙ omega (arith, top_three (get_or xs 0 0))) in
            simp (le-ltb (length xs) 5 h, ne_eqb (bit xs 7) 0 (omega arith), ne_eqb (bit xs 23) 0 (omega arith), ne_eqb (bit xs 39) 0 (omega arith), v)

-- the same under a prefix. Each entry is a byte, as the borrow checker says it
module _ (xs : List ℕ) (e : ℕ) where
  pub prefixed_short : length xs < 5 → answer 1 [] ≡ read_prefixed e xs
  unfolding read_prefixed
  prefixed_short h = simp (lt-ltb (length xs) 5 h)

  module _ (h : 5 ≤ length xs) (k : (i : ℕ) → Fits w8 (get_or xs i 0)) where
    prefix_of : field xs 0 4 ≡ get_or xs 0 0 / 16
    prefix_of = omega (arith, in_byte xs 0 0 4 4 refl, k 0)

    pub prefixed_same : (a : Answer) → get_or xs 0 0 / 16 ≡ e → a ≡ read_stamp xs → a ≡ read_prefixed e xs
    unfolding read_prefixed
    prefixed_same a p g = g ∙ simp (le-ltb (length xs) 5 h, eq-eqb (field xs 0 4) e (prefix_of ∙ p))

    pub prefixed-other : (get_or xs 0 0 / 16 ≡ e → ⊥) → answer 13 (e ∷ (get_or xs 0 0 / 16) ∷ []) ≡ read_prefixed e xs
    unfolding read_prefixed
    prefixed-other p = simp (le-ltb (length xs) 5 h, prefix_of, ne_eqb (get_or xs 0 0 / 16) e p)

module _ (v : ℕ) where
  pub made : v < 2 ^ 34 → answer 0 (v ∷ []) ≡ make_stamp v
  unfolding make_stamp
  made h = limited-in v (2 ^ 34) (v ∷ []) h

  pub not_made : 2 ^ 34 ≤ v → answer 14 [] ≡ make_stamp v
  unfolding make_stamp
  not_made h = limited-out v (2 ^ 34) (v ∷ []) h

-- a timestamp that was made has the number that it was made of
pub made-value : (v x : ℕ) → answer 0 (x ∷ []) ≡ make_stamp v → x ≡ v
unfolding make_stamp
made-value v x e = limited-value (ltb v (2 ^ 34)) x v e

module _ (a s : ℕ) where
  pub wrapped_le : a ≤ s → leb (2 ^ 32) (s - a) ≡ likely_wrapped a s
  unfolding likely_wrapped
  wrapped_le h = simp (le-leb a s h)

  -- the answer of `&&` where its first half fails is that half
  pub wrapped_gt : s < a → leb a s ≡ likely_wrapped a s
  unfolding likely_wrapped
  wrapped_gt h = simp (lt-leb a s h)

-- five bytes hold a time, or a marker that is not set, so the number of the answer is 0 or 12

marker : (p q r : Bool) (v : ℕ)
    → (pick p (answer 12 (7 ∷ [])) (pick q (answer 12 (23 ∷ [])) (pick r (answer 12 (39 ∷ [])) (answer 0 (v ∷ []))))).number % 12 ≡ 0
marker true q r v = refl
marker false true r v = refl
marker false false true v = refl
marker false false false v = refl

pub stamp-long : (xs : List ℕ) (n : ℕ) (vs : List ℕ) → answer n vs ≡ read_stamp xs → 5 ≤ length xs → n % 12 ≡ 0
unfolding read_stamp
stamp-long xs n vs e h =
    ap (λ (a : Answer). a.number % 12) e
    ∙ rw (le-ltb (length xs) 5 h) (marker (eqb (bit xs 7) 0) (eqb (bit xs 23) 0) (eqb (bit xs 39) 0) (stamp_value xs))

pub ruleset stamp_laws = (stamp-short, stamp-marker_7, stamp-marker_23, stamp-marker_39, stamp-done, prefixed_short, prefixed_same, prefixed-other)

pub ruleset timestamp_laws = (stamp_laws, made, not_made, wrapped_le, wrapped_gt)
