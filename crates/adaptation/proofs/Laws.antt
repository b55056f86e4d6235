-- What the definitions of `specs/` come to on the bytes, in each case. Each premise is a test or a promise that a need is handed, and the answer is
-- as the code computes it. The functions' proofs are found by the rulesets at the end.
-- Assumes nothing.
use mathlib.Core.Path.{◌≡◌, refl, sym, ap, ◌∙◌}
use mathlib.Core.Bool.{true, false}
use mathlib.Core.List.{List, [], ◌∷◌}
use Prim.Native.Nat.{ℕ, zero, suc, ◌+◌, ◌-◌, ◌*◌, ◌/◌, ◌%◌, ◌^◌, ◌≤◌, ◌<◌}
use native.Mathlib.Nat.{add-zero}
use native.Mathlib.Omega.{arith}
use lib.ListN.{length, get_or, drop, length-drop, get_or-eq_default}
use lib.Seq.{get_or-drop}
use lib.Dec.{eqb}
use borrow.Author.Tests.{le-ltb, lt-ltb, ltb-false, eqb-true, eqb-false, eq-eqb, ne_eqb}
use Rattle.bits.specs.Answer.{Answer, answer, pick, truth, unless, part_at, part_of, Within}
use Rattle.bits.specs.Field.{bit, field, flag}
use Rattle.bits.specs.Refused.{refused}
use Rattle.bits.specs.declared.refusal.Refusal.{Refusal}
use Rattle.bits.proofs.Checks.{unless-within}
use Rattle.bits.proofs.Fields.{bit_below, field-split, field-drop, in_byte, first-left}
use Rattle.bits.proofs.Parts.{part_none, part-done}
use Rattle.bits.proofs.Refusals.{refused-not_done}
use Rattle.timestamp.specs.Stamp.{read_stamp}
use Rattle.control.specs.Clock.{read_clock}
use Rattle.control.proofs.Laws.{clock-there}
use Rattle.adaptation.specs.Adaptation.{no_flags, not_field, read_flag, pcr_bit, opcr_bit, splice_bit}
use Rattle.adaptation.specs.Adaptation.{private_bit, extension_bit, opcr_at, splice_at, private_at, extension_at}
use Rattle.adaptation.specs.Adaptation.{clock_at, measured_end, measured, empty_extension}
use Rattle.adaptation.specs.Adaptation.{read_pcr, read_opcr, read_splice_countdown, read_private_data, read_extension}
use Rattle.adaptation.specs.Extension.{ltw_bit, rate_bit, seamless_bit, read_ltw, read_rate, read_splice, rate_at, seamless_at, typed}

-- ---- flags

module _ (xs : List ℕ) (i : ℕ) where
  pub flag-at : i < 8 → eqb (get_or xs 0 0 / 2 ^ (7 - i) % 2) 1 ≡ flag xs i
  unfolding bit
  flag-at h =
      let k : i / 8 ≡ 0 = omega arith in
      let j : i % 8 ≡ i = omega arith in
      rw (k, j) refl

  pub bit-set : flag xs i ≡ true → bit xs i ≡ 1
  bit-set h = eqb-true (bit xs i) 1 h

  pub bit-clear : flag xs i ≡ false → bit xs i ≡ 0
  bit-clear h = omega (arith, bit_below xs i, eqb-false (bit xs i) 1 h)

  -- those that are always there
  pub flag-short : length xs ≡ 0 → answer 1 [] ≡ read_flag i xs
  unfolding read_flag no_flags
  flag-short h = simp (eq-eqb (length xs) 0 h)

  pub flag-done : 0 < length xs → answer 0 (truth (flag xs i) ∷ []) ≡ read_flag i xs
  unfolding read_flag no_flags
  flag-done h = simp (ne_eqb (length xs) 0 (omega arith))

-- ---- where each field begins

module _ (xs : List ℕ) where
  pub opcr-is : opcr_at xs ≡ 1 + 6 * bit xs pcr_bit
  unfolding opcr_at
  opcr-is = refl

  pub splice-is : splice_at xs ≡ opcr_at xs + 6 * bit xs opcr_bit
  unfolding splice_at
  splice-is = refl

  pub private-is : private_at xs ≡ splice_at xs + bit xs splice_bit
  unfolding private_at
  private-is = refl

  pub rate-is : rate_at xs ≡ 1 + 2 * bit xs ltw_bit
  unfolding rate_at
  rate-is = refl

  pub seamless-is : seamless_at xs ≡ rate_at xs + 3 * bit xs rate_bit
  unfolding seamless_at
  seamless-is = refl

  -- the extension follows the private data, where that is there
  pub extension-first : flag xs private_bit ≡ false → extension_at xs ≡ private_at xs
  unfolding extension_at
  extension-first f = rw f refl

  pub extension-next : flag xs private_bit ≡ true → extension_at xs ≡ private_at xs + 1 + get_or xs (private_at xs) 0
  unfolding extension_at measured_end
  extension-next f = rw f refl

  -- past the end there is no length byte, and 0 is read for it
  pub extension_past : flag xs private_bit ≡ true → length xs ≤ private_at xs → extension_at xs ≡ private_at xs + 1
  extension_past f l = omega (arith, extension-next f, get_or-eq_default xs 0 {n = private_at xs} l)

-- ---- fields that a flag says are there

module _ (none i e : ℕ) (xs : List ℕ) (a : Answer) where
  pub empty : length xs ≡ 0 → answer none [] ≡ unless (not_field none i e xs) a
  unfolding not_field
  empty h = simp (eq-eqb (length xs) 0 h)

  pub absent : 0 < length xs → flag xs i ≡ false → answer 9 [] ≡ unless (not_field none i e xs) a
  unfolding not_field
  absent h f = simp (ne_eqb (length xs) 0 (omega arith), f)

  module _ (h : 0 < length xs) (f : flag xs i ≡ true) where
    pub short : length xs < e → answer 11 [] ≡ unless (not_field none i e xs) a
    unfolding not_field
    short l = simp (ne_eqb (length xs) 0 (omega arith), f, lt-ltb (length xs) e l)

    there : e ≤ length xs → a ≡ unless (not_field none i e xs) a
    unfolding not_field
    there l = simp (ne_eqb (length xs) 0 (omega arith), f, le-ltb (length xs) e l)

-- ---- the fields of the adaptation field

-- six bytes from a place on are a clock reference
clock-read : (xs : List ℕ) (k : ℕ) (a : Answer) → k + 6 ≤ length xs → a ≡ read_clock (drop k xs) → a ≡ clock_at xs k
clock-read xs k a l g = g ∙ clock-there (drop k xs) (simp length-drop (omega arith))

module _ (xs : List ℕ) (h : 0 < length xs) where
  pub pcr-done : (a : Answer) → flag xs pcr_bit ≡ true → 7 ≤ length xs → a ≡ read_clock (drop 1 xs) → a ≡ read_pcr xs
  pcr-done a f l g = clock-read xs 1 a l g ∙ there 1 pcr_bit 7 xs (clock_at xs 1) h f l

  pub opcr-done : (a : Answer) → flag xs opcr_bit ≡ true → opcr_at xs + 6 ≤ length xs → a ≡ read_clock (drop (opcr_at xs) xs) → a ≡ read_opcr xs
  opcr-done a f l g = clock-read xs (opcr_at xs) a l g ∙ there 1 opcr_bit (opcr_at xs + 6) xs (clock_at xs (opcr_at xs)) h f l

  pub countdown-done : (n : ℕ) → flag xs splice_bit ≡ true → splice_at xs + 1 ≤ length xs → n ≡ get_or (drop (splice_at xs) xs) 0 0
      → answer 0 (n ∷ []) ≡ read_splice_countdown xs
  countdown-done n f l e = rw (e, first-left (splice_at xs) xs) (there 1 splice_bit (splice_at xs + 1) xs _ h f l)

  pub private-done : flag xs private_bit ≡ true → measured_end xs (private_at xs) ≤ length xs
      → answer 0 ((private_at xs + 1) ∷ get_or xs (private_at xs) 0 ∷ []) ≡ read_private_data xs
  private-done f l = there 1 private_bit (measured_end xs (private_at xs)) xs _ h f l

  module _ (f : flag xs extension_bit ≡ true) (l : measured_end xs (extension_at xs) ≤ length xs) where
    pub extension_empty : get_or xs (extension_at xs) 0 ≡ 0 → answer 11 [] ≡ read_extension xs
    unfolding empty_extension
    extension_empty z =
        rw (eq-eqb (get_or xs (extension_at xs) 0) 0 z) (there 1 extension_bit (measured_end xs (extension_at xs)) xs (answer 11 []) h f l)

    pub extension-done : (get_or xs (extension_at xs) 0 ≡ 0 → ⊥)
        → answer 0 ((extension_at xs + 1) ∷ get_or xs (extension_at xs) 0 ∷ []) ≡ read_extension xs
    unfolding empty_extension
    extension-done z =
        let k = extension_at xs in
        rw (ne_eqb (get_or xs k 0) 0 z) (there 1 extension_bit (measured_end xs k) xs (measured xs k) h f l)

-- a length byte, and where the bytes after it end
pub end-is : (xs : List ℕ) (k : ℕ) → measured_end xs k ≡ k + 1 + get_or xs k 0
unfolding measured_end
end-is xs k = refl

-- no refusal has the number of what is accepted
not_done : (r : Refusal) → 0 < (refused r).number
not_done r = go (refused r).number (refused-not_done r 1 0)
  where
    go : (n : ℕ) → ◌≡◌ {A = ℕ} (pick (eqb n 0) 1 0) 0 → 0 < n
    go zero e = absurd (omega arith)
    go (suc n) e = omega arith

-- ---- both parts lie within the bytes

measured-within : (xs : List ℕ) (k : ℕ) → measured_end xs k ≤ length xs → Within (measured xs k) xs
unfolding measured_end
measured-within xs k l = λ z. l

pub private-within : (xs : List ℕ) → Within (read_private_data xs) xs
unfolding not_field
private-within xs =
    unless-within (not_field 1 private_bit (measured_end xs (private_at xs)) xs) _ xs (omega arith) (λ o. measured-within xs _ (ltb-false (length xs) _ o.1.1.0))

pub extension-within : (xs : List ℕ) → Within (read_extension xs) xs
unfolding not_field empty_extension
extension-within xs =
    unless-within (not_field 1 extension_bit (measured_end xs (extension_at xs)) xs) _ xs (omega arith) (λ o.
    unless-within (empty_extension xs) _ xs (omega arith) (λ u. measured-within xs _ (ltb-false (length xs) _ o.1.1.0)))

-- a part, by where it is said to lie
module _ (xs : List ℕ) where
  pub no_part : (r : Refusal) → part_of (refused r) xs ≡ []
  no_part r = sym (part_none (refused r) (refused r) xs (not_done r) refl)

  module _ (p n : ℕ) where
    pub private-part : answer 0 (p ∷ n ∷ []) ≡ read_private_data xs → part_at p n xs ≡ part_of (read_private_data xs) xs
    private-part g = part-done _ _ p n g (private-within xs)

    pub extension-part : answer 0 (p ∷ n ∷ []) ≡ read_extension xs → part_at p n xs ≡ part_of (read_extension xs) xs
    extension-part g = part-done _ _ p n g (extension-within xs)

-- ---- the fields of the extension

module _ (xs : List ℕ) (h : 0 < length xs) where
  module _ (f : flag xs ltw_bit ≡ true) (l : 3 ≤ length xs) where
    pub window-not-valid : get_or (drop 1 xs) 0 0 / 128 % 2 ≡ 0 → answer 0 (0 ∷ []) ≡ read_ltw xs
    unfolding bit
    window-not-valid v = rw (ne_eqb (bit xs 8) 1 (omega (arith, first-left 1 xs))) (there 11 ltw_bit 3 xs (answer 0 (0 ∷ [])) h f l)

    pub window_valid : (v : ℕ) → (get_or (drop 1 xs) 0 0 / 128 % 2 ≡ 0 → ⊥) → v ≡ get_or (drop 1 xs) 1 0 → v < 256
        → answer 0 (1 ∷ (get_or (drop 1 xs) 0 0 % 128 * 256 + v) ∷ []) ≡ read_ltw xs
    unfolding bit
    window_valid v w e b =
        let q : get_or (drop 1 xs) 0 0 % 128 * 256 + v ≡ field xs 9 15
        = omega (arith, first-left 1 xs, get_or-drop 1 xs 1 0, field-split xs 9 7 8, in_byte xs 1 1 7 0 refl, in_byte xs 2 0 8 0 refl) in
        rw (eq-eqb (bit xs 8) 1 (omega (arith, first-left 1 xs)), q) (there 11 ltw_bit 3 xs (answer 0 (1 ∷ field xs 9 15 ∷ [])) h f l)

  -- a rate, by the bytes from its place on
  module _ (ys : List ℕ) (e : ys ≡ drop (rate_at xs) xs) where
    rate-of : field xs (8 * rate_at xs + 2) 22 ≡ get_or ys 0 0 % 64 * 65536 + get_or ys 1 0 % 256 * 256 + get_or ys 2 0 % 256
    rate-of =
        sym (field-drop xs (rate_at xs) 2 22)
        ∙ rw (← e) (omega (arith, field-split ys 2 6 16, field-split ys 8 8 8, in_byte ys 0 2 6 0 refl, in_byte ys 1 0 8 0 refl, in_byte ys 2 0 8 0 refl))

    pub rate-done : flag xs rate_bit ≡ true → rate_at xs + 3 ≤ length xs → get_or ys 1 0 < 256 → get_or ys 2 0 < 256
        → answer 0 ((get_or ys 0 0 % 64 * 2 ^ 16 + get_or ys 1 0 * 256 + get_or ys 2 0) ∷ []) ≡ read_rate xs
    rate-done f l i j =
        let q : get_or ys 0 0 % 64 * 2 ^ 16 + get_or ys 1 0 * 256 + get_or ys 2 0 ≡ field xs (8 * rate_at xs + 2) 22 = omega (arith, rate-of) in
        rw q (there 11 rate_bit (rate_at xs + 3) xs (answer 0 (field xs (8 * rate_at xs + 2) 22 ∷ [])) h f l)

  -- a splice: its type, and what the reader of its time answers
  module _ (f : flag xs seamless_bit ≡ true) (l : seamless_at xs + 5 ≤ length xs) where
    type-is : field xs (8 * seamless_at xs) 4 ≡ get_or (drop (seamless_at xs) xs) 0 0 / 16 % 16
    type-is = rw (first-left) (ap (λ (o : ℕ). field xs o 4) (sym (add-zero (8 * seamless_at xs))) ∙ in_byte xs (seamless_at xs) 0 4 4 refl)

    typed-is : typed (field xs (8 * seamless_at xs) 4) (read_stamp (drop (seamless_at xs) xs)) ≡ read_splice xs
    typed-is = there 11 seamless_bit (seamless_at xs + 5) xs _ h f l

    pub splice-refused : (r : Refusal) → refused r ≡ read_stamp (drop (seamless_at xs) xs) → refused r ≡ read_splice xs
    splice-refused r g =
        let t : ℕ = field xs (8 * seamless_at xs) 4 in
        sym (refused-not_done r (answer 0 (t ∷ (refused r).values)) (refused r)) ∙ (ap (typed t) g ∙ typed-is)

    pub splice-done : (u v : ℕ) → get_or xs (seamless_at xs) 0 < 256 → u ≡ get_or (drop (seamless_at xs) xs) 0 0
        → (read_stamp (drop (seamless_at xs) xs)).number ≡ 0 → (read_stamp (drop (seamless_at xs) xs)).values ≡ v ∷ []
        → answer 0 (u / 16 ∷ v ∷ []) ≡ read_splice xs
    splice-done u v b e n w =
        let t : u / 16 ≡ field xs (8 * seamless_at xs) 4 = omega (arith, type-is, first-left (seamless_at xs) xs) in
        rw (t, ← w, ← typed-is) (simp (eq-eqb (read_stamp (drop (seamless_at xs) xs)).number 0 n))

-- What the functions' proofs are found by, file by file.
pub ruleset flagged_laws = (flag-at, bit-set, bit-clear, empty, absent, short, first-left)

pub ruleset offset_laws = (opcr-is, splice-is, private-is, extension-first, extension-next, extension_past)

pub ruleset part_laws = (private-done, end-is, extension_empty, extension-done, no_part, private-part, extension-part)

pub ruleset adaptation_laws = (flag-short, flag-done, pcr-done, opcr-done, countdown-done, offset_laws, part_laws, flagged_laws)

pub ruleset extension_laws = (rate-is, seamless-is, window-not-valid, window_valid, rate-done, splice-refused, splice-done, flagged_laws)
