-- What the definitions of `specs/` come to on the bytes, in each case. The functions' proofs cite these, and so do callers'.
-- Assumes nothing.
use mathlib.Core.Path.{◌≡◌, refl, sym, ap, ap₂, ◌∙◌}
use mathlib.Core.Bool.{Bool, true, false, not}
use mathlib.Core.List.{List, [], ◌∷◌, ◌++◌}
use Prim.Native.Nat.{ℕ, suc, ◌+◌, ◌-◌, ◌*◌, ◌/◌, ◌%◌, ◌^◌, ◌≤◌, ◌<◌}
use native.Mathlib.Nat.{div-one}
use native.Mathlib.Omega.{arith}
use lib.ListN.{length, get_or, drop}
use lib.Dec.{eqb, ltb}
use lib.Seq.{drop-cons, get_or-drop}
use borrow.Author.Tests.{lt-ltb, le-ltb, eq-eqb, ne_eqb, ltb-false, eqb-true, eqb-false}
use Rattle.bits.specs.Answer.{Answer, answer, pick, truth, other, unless, Within, part_at, part_of}
use Rattle.bits.specs.Field.{bit, field, flag}
use Rattle.bits.specs.Refused.{refused}
use Rattle.bits.specs.declared.refusal.Refusal.{Refusal}
use Rattle.bits.proofs.Refusals.{refused_above}
use Rattle.bits.proofs.Checks.{Off, none-holds, first_holds, ne-other, eq-other, passed, refused_by, unless-within}
use Rattle.bits.proofs.Fields.{in_byte, field-split, byte-field, field_below, field-left, bit-left}
use Rattle.bits.proofs.Fields.{bit-truth, first-left, field-one, bit_below, bit_of, Known}
use Rattle.bits.proofs.Parts.{part_none, part-done}
use Rattle.bits.proofs.Tests.{limited-in, limited-out, limited-value, limited-refused}
use Rattle.timestamp.specs.Stamp.{read_stamp}
use Rattle.control.specs.Clock.{make_clock}
use Rattle.control.proofs.Laws.{made}
use Rattle.contents.proofs.Ends.{entry-is, times-end, escr-end, rate-end, trick-end, copy-end, crc-end, pts-end, dts-end}
use Rattle.contents.proofs.Ends.{end_least}
use Rattle.contents.specs.Contents.{flag_byte, data_length, times_size, escr_at, es_rate_at, trick_at, copy_info_at, crc_at, fields_end, payload_at, not_contents}
use Rattle.contents.specs.Contents.{scrambling_bit, pes_priority_bit, original_bit, flags_bit, data_length_bit}
use Rattle.contents.specs.Contents.{pts_bit, dts_bit, escr_bit, es_rate_bit, trick_bit, copy_info_bit, crc_bit}
use Rattle.contents.specs.Contents.{inner, flagged, read_contents, read_pts_dts, escr_base, escr_extension, escr_answer, rate_of, copy_info_of, read_escr}
use Rattle.contents.specs.Contents.{read_es_rate, read_copy_info, read_crc, read_pes_extension, read_parsed_payload, places_of, make_rate, rate_bytes}
use Rattle.contents.specs.Trick.{control, trick_of, trick_byte, truncation_bits, read_trick, read_raw_trick}

-- ---- where things stand

-- the fields that are always there
module _ (c : List ℕ) where
  pub priority-is : field c pes_priority_bit 1 ≡ get_or c 0 0 / 8 % 2
  priority-is = in_byte c 0 4 1 3 refl

  pub scrambling-is : field c scrambling_bit 2 ≡ get_or c 0 0 / 16 % 4
  scrambling-is = in_byte c 0 2 2 4 refl

  pub original-is : field c original_bit 1 ≡ get_or c 0 0 % 2
  original-is = in_byte c 0 7 1 0 refl ∙ rw div-one

  pub flags-is : get_or c 1 0 < 256 → field c flags_bit 8 ≡ get_or c 1 0
  flags-is h = byte-field c 1 h

  pub length-is : get_or c 2 0 < 256 → field c data_length_bit 8 ≡ get_or c 2 0
  length-is h = byte-field c 2 h

module _ (c : List ℕ) where
  pub end_at : get_or c 2 0 < 256 → 3 + get_or c 2 0 ≡ payload_at c
  unfolding payload_at data_length
  end_at h = ap (λ (n : ℕ). 3 + n) (sym (byte-field c 2 h))

  -- the second byte's flags, as the code takes them off it
  pub first-flags : get_or c 1 0 < 256 → get_or c 1 0 / 64 ≡ field c pts_bit 2
  first-flags h = omega (arith, in_byte c 1 0 2 6 refl)

  module _ (i : ℕ) where
    pub bit-is : bit c i ≡ bit_of c i
    unfolding bit
    bit-is = refl

    pub flag-set : flag c i ≡ true → bit c i ≡ 1
    flag-set e = eqb-true (bit c i) 1 e

    pub flag-clear : flag c i ≡ false → bit c i ≡ 0
    flag-clear e = omega (arith, bit_below c i, eqb-false (bit c i) 1 e)

  -- the two flags of the timestamps
  module _ (f : ℕ) (e : f ≡ field c pts_bit 2) where
    two_flags : (f ≡ bit c pts_bit * 2 + bit c dts_bit) × (bit c pts_bit < 2) × (bit c dts_bit < 2)
    unfolding field
    two_flags = omega (arith, bit_below c pts_bit, bit_below c dts_bit)

    pub times_none : f < 2 → 3 ≡ escr_at c
    unfolding escr_at times_size
    times_none h = simp (ne_eqb (bit c 8) 1 (omega (arith, two_flags)))

    pub times-one : f ≡ 2 → 8 ≡ escr_at c
    unfolding escr_at times_size
    times-one h = simp (eq-eqb (bit c 8) 1 (omega (arith, two_flags))) (omega (arith, two_flags))

    pub times-other : (f ≡ 0 → ⊥) → (f ≡ 1 → ⊥) → (f ≡ 2 → ⊥) → 13 ≡ escr_at c
    unfolding escr_at times_size
    times-other x y z = simp (eq-eqb (bit c 8) 1 (omega (arith, two_flags))) (omega (arith, two_flags))

-- ---- contents that are refused, and those that are not

-- what is known of contents that are accepted
pub record Accepted (c : List ℕ) : Type 0 where
  pub fixed : 3 ≤ length c
  pub header : payload_at c ≤ length c
  pub fields : fields_end c ≤ payload_at c
  pub is : (a : Answer) → unless (not_contents c) a ≡ a

module _ (c : List ℕ) (a : Answer) where
  pub short : length c < 3 → answer 5 [] ≡ unless (not_contents c) a
  unfolding not_contents
  short h = simp (lt-ltb (length c) 3 h)

  pub bad_check : Known c → 3 ≤ length c → (get_or c 0 0 / 64 ≡ 2 → ⊥) → answer 6 [] ≡ unless (not_contents c) a
  unfolding not_contents
  bad_check k h n = first_holds (not_contents c) 1 (le-ltb (length c) 3 h, tt) (ne-other (field c 0 2) 2 (omega (arith, in_byte c 0 0 2 6 refl, k 0))) a

  module _ (p : ℕ) (e : p ≡ payload_at c) (h : 3 ≤ length c) (n : get_or c 0 0 / 64 ≡ 2) where
    check : other (field c 0 2) 2 ≡ false
    check = eq-other (field c 0 2) 2 (omega (arith, in_byte c 0 0 2 6 refl))

    pub past_buffer : length c < p → answer 7 [] ≡ unless (not_contents c) a
    unfolding not_contents
    past_buffer l = first_holds (not_contents c) 2 (le-ltb (length c) 3 h, (check, tt)) (lt-ltb (length c) (payload_at c) (omega arith)) a

    pub past-header : (q : ℕ) → q ≡ fields_end c → p ≤ length c → p < q → answer 8 [] ≡ unless (not_contents c) a
    unfolding not_contents
    past-header q f l m =
        first_holds (not_contents c) 3 (le-ltb (length c) 3 h, (check, (le-ltb (length c) (payload_at c) (omega arith), tt))) (lt-ltb (payload_at c) (fields_end c) (omega arith)) a

  pub contents-is : (3 ≤ length c) × (get_or c 0 0 / 64 % 4 ≡ 2) × (payload_at c ≤ length c) × (fields_end c ≤ payload_at c) → unless (not_contents c) a ≡ a
  unfolding not_contents
  contents-is h =
      simp (le-ltb (length c) 3 h.0, eq-eqb (field c 0 2) 2 (in_byte c 0 0 2 6 refl ∙ h.1), le-ltb (length c) (payload_at c) h.2, le-ltb (payload_at c) (fields_end c) h.3)

pub passes : (c : List ℕ) → Off (not_contents c) → Accepted c
unfolding not_contents
passes c o = record {
  fixed = ltb-false (length c) 3 o.0;
  header = ltb-false (length c) (payload_at c) o.1.1.0;
  fields = ltb-false (payload_at c) (fields_end c) o.1.1.1.0;
  is = none-holds (not_contents c) o;
}

-- so the number of `from_bytes` settles every reader's
pub accepted-by : (c : List ℕ) → (read_contents c).number ≡ 0 → Accepted c
unfolding not_contents
accepted-by c z = passes c (passed (not_contents c) (answer 0 []) (omega arith) z)

pub accepted : (c : List ℕ) → answer 0 [] ≡ read_contents c → Accepted c
accepted c e = accepted-by c (sym (ap (λ (a : Answer). a.number) e))

-- and its refusal is theirs
pub refused-by : (c : List ℕ) (r : Refusal) → refused r ≡ read_contents c → (a : Answer) → refused r ≡ unless (not_contents c) a
refused-by c r e a = refused_by (not_contents c) (answer 0 []) refl (refused r) (refused_above r) e a

pub accepted-is : (c : List ℕ) → Accepted c → (a : Answer) → unless (not_contents c) a ≡ a
accepted-is c ok a = ok.is a

-- a field that its flag says is there, or is not
pub refused-field : (c : List ℕ) (r : Refusal) → refused r ≡ read_contents c → (i : ℕ) (a : Answer) → refused r ≡ flagged i c a
unfolding flagged
refused-field c r e i a = refused-by c r e _

pub refused-times : (c : List ℕ) (r : Refusal) → refused r ≡ read_contents c → refused r ≡ read_pts_dts c
unfolding read_pts_dts
refused-times c r e = refused-by c r e _

module _ (c : List ℕ) (i : ℕ) (a : Answer) (h : Accepted c) where
  pub field_off : bit c i ≡ 0 → answer 9 [] ≡ flagged i c a
  unfolding flagged
  field_off e = sym (h.is _ ∙ simp (ne_eqb (bit c i) 1 (omega arith)))

  pub field-on : bit c i ≡ 1 → flagged i c a ≡ a
  unfolding flagged
  field-on e = h.is _ ∙ simp (eq-eqb (bit c i) 1 e)

-- ---- the clock reference

module _ (xs : List ℕ) where
  -- in steps: with all bytes at once the equation has too many unknowns for `omega`
  escr-middle : field xs 6 15 ≡ get_or xs 0 0 % 4 * 8192 + get_or xs 1 0 % 256 * 32 + get_or xs 2 0 / 8 % 32
  escr-middle = omega (arith, field-split xs 6 2 13, field-split xs 8 8 5, in_byte xs 0 6 2 0 refl, in_byte xs 1 0 8 0 refl, in_byte xs 2 0 5 3 refl)

  escr-low : field xs 22 15 ≡ get_or xs 2 0 % 4 * 8192 + get_or xs 3 0 % 256 * 32 + get_or xs 4 0 / 8 % 32
  escr-low = omega (arith, field-split xs 22 2 13, field-split xs 24 8 5, in_byte xs 2 6 2 0 refl, in_byte xs 3 0 8 0 refl, in_byte xs 4 0 5 3 refl)

  escr-last : field xs 38 9 ≡ get_or xs 4 0 % 4 * 128 + get_or xs 5 0 / 2 % 128
  escr-last = omega (arith, field-split xs 38 2 7, in_byte xs 4 6 2 0 refl, in_byte xs 5 0 7 1 refl)

  -- its base and its extension fit
  escr-made : answer 0 (escr_base xs ∷ escr_extension xs ∷ []) ≡ make_clock (escr_base xs) (escr_extension xs)
  unfolding escr_base escr_extension
  escr-made = made _ _ (omega (arith, field_below xs 2 3, field_below xs 6 15, field_below xs 22 15), field_below xs 38 9)

  -- what is made of them is the answer, so that they are out of range does not arise
  pub escr-is : (a : Answer) (b e : ℕ) → a ≡ make_clock b e → b ≡ escr_base xs → e ≡ escr_extension xs → a ≡ escr_answer xs
  escr-is a b e g p q = g ∙ (ap₂ make_clock p q ∙ sym escr-made)

  -- by its six bytes
  escr-parts : escr_answer xs
      ≡ answer 0 ((get_or xs 0 0 / 8 % 8 * 2 ^ 30 + (get_or xs 0 0 % 4 * 8192 + get_or xs 1 0 % 256 * 32 + get_or xs 2 0 / 8 % 32) * 2 ^ 15
      + (get_or xs 2 0 % 4 * 8192 + get_or xs 3 0 % 256 * 32 + get_or xs 4 0 / 8 % 32))
      ∷ (get_or xs 4 0 % 4 * 128 + get_or xs 5 0 / 2 % 128) ∷ [])
  unfolding escr_base escr_extension
  escr-parts = rw (in_byte xs 0 2 3 3 refl, escr-middle, escr-low, escr-last)

-- ---- what stands at a place

module _ (c : List ℕ) (at : ℕ) where
  -- the bytes from there on, one by one
  abbrev pub two : List ℕ
  two = get_or c at 0 ∷ get_or c (at + 1) 0 ∷ []

  abbrev pub three : List ℕ
  three = get_or c at 0 ∷ get_or c (at + 1) 0 ∷ get_or c (at + 2) 0 ∷ []

  abbrev pub six : List ℕ
  six = get_or c at 0 ∷ get_or c (at + 1) 0 ∷ get_or c (at + 2) 0 ∷ get_or c (at + 3) 0 ∷ get_or c (at + 4) 0 ∷ get_or c (at + 5) 0 ∷ []

  escr-of : escr_answer six ≡ escr_answer (drop at c)
  escr-of =
      escr-parts six
      ∙ sym (escr-parts (drop at c) ∙ rw (first-left at c, get_or-drop at c 1 0, get_or-drop at c 2 0, get_or-drop at c 3 0, get_or-drop at c 4 0, get_or-drop at c 5 0))

  rate-of : rate_of (drop at c) ≡ get_or c at 0 % 128 * 32768 + get_or c (at + 1) 0 % 256 * 128 + get_or c (at + 2) 0 / 2 % 128
  unfolding rate_of
  rate-of =
      let xs : List ℕ = drop at c in
      omega (
        arith,
        field-split xs 1 7 15,
        field-split xs 8 8 7,
        in_byte xs 0 1 7 0 refl,
        in_byte xs 1 0 8 0 refl,
        in_byte xs 2 0 7 1 refl,
        first-left at c,
        get_or-drop at c 1 0,
        get_or-drop at c 2 0,
      )

  crc-of : field (drop at c) 0 16 ≡ get_or c at 0 % 256 * 256 + get_or c (at + 1) 0 % 256
  crc-of =
      let xs : List ℕ = drop at c in
      omega (arith, field-split xs 0 8 8, in_byte xs 0 0 8 0 refl, in_byte xs 1 0 8 0 refl, first-left at c, get_or-drop at c 1 0)

  -- the trick mode depends on the byte there alone
  trick-of : at < length c → trick_of (drop at c) ≡ trick_byte (get_or c at 0)
  unfolding trick_of control
  trick-of h =
      let b : List ℕ = get_or c at 0 ∷ [] in
      let t : List ℕ = drop (suc at) c in
      rw (drop-cons c at 0 h, field-left b t 0 3 (omega arith), field-left b t 3 2 (omega arith), field-left b t 5 3 (omega arith), field-left b t 6 2 (omega arith), bit-left b t 5 (omega arith))

  copy_of : at < length c → copy_info_of (get_or c at 0 ∷ []) ≡ copy_info_of (drop at c)
  copy_of h =
      let b : List ℕ = get_or c at 0 ∷ [] in
      let t : List ℕ = drop (suc at) c in
      rw (drop-cons c at 0 h, field-left b t 1 7 (omega arith), bit-left b t 0 (omega arith))

-- three bytes and two, where nothing follows them
module _ (c : List ℕ) (at : ℕ) where
  three_of : rate_of (three c at) ≡ rate_of (drop at c)
  three_of = rate-of (three c at) 0 ∙ sym (rate-of c at)

  two_of : field (two c at) 0 16 ≡ field (drop at c) 0 16
  two_of = crc-of (two c at) 0 ∙ sym (crc-of c at)

-- ---- both parts lie within the contents

contents-within : (c : List ℕ) (a : Answer) → (Accepted c → Within a c) → Within (unless (not_contents c) a) c
unfolding not_contents
contents-within c a w = unless-within (not_contents c) a c (omega arith) (λ o. w (passes c o))

pub extension-within : (c : List ℕ) → Within (read_pes_extension c) c
unfolding flagged
extension-within c = contents-within c _ (λ h. go h (flag c 15))
  where
    go : Accepted c → (f : Bool) → Within (pick (not f) (answer 9 []) (answer 0 (fields_end c ∷ (payload_at c - fields_end c) ∷ []))) c
    go h true z = omega arith
    go h false z = absurd (omega arith)

pub payload-within : (c : List ℕ) → Within (read_parsed_payload c) c
payload-within c = contents-within c _ (λ h z. omega arith)

-- ---- ES rates: one that is not made has none, and that of one that is made is that of its number

pub rate-refused : (n : ℕ) → answer 14 [] ≡ make_rate n → rate_bytes n ≡ answer 14 []
unfolding make_rate rate_bytes
rate-refused n p = limited-refused (ltb n (2 ^ 22)) (n ∷ []) _ p

pub rate-kept : (n x : ℕ) → answer 0 (x ∷ []) ≡ make_rate n → rate_bytes x ≡ rate_bytes n
unfolding make_rate
rate-kept n x p = ap rate_bytes (limited-value (ltb n (2 ^ 22)) x n p)

-- ---- the laws as the tactics take them: each premise is a test, or a promise, that a function's needs are handed

pub rate-in : (n : ℕ) → n < 2 ^ 22 → answer 0 (n ∷ []) ≡ make_rate n
unfolding make_rate
rate-in n h = limited-in n (2 ^ 22) _ h

pub rate-out : (n : ℕ) → 2 ^ 22 ≤ n → answer 14 [] ≡ make_rate n
unfolding make_rate
rate-out n h = limited-out n (2 ^ 22) _ h

pub bytes-in : (n : ℕ) → n < 2 ^ 22 → answer 0 ((n * 50) ∷ []) ≡ rate_bytes n
unfolding rate_bytes
bytes-in n h = limited-in n (2 ^ 22) _ h

pub bytes-out : (n : ℕ) → 2 ^ 22 ≤ n → answer 14 [] ≡ rate_bytes n
unfolding rate_bytes
bytes-out n h = limited-out n (2 ^ 22) _ h

module _ (c : List ℕ) where
  -- 26 is the furthest that the flagged fields can end
  pub roomy : (p : ℕ) → p ≡ payload_at c → 3 ≤ length c → get_or c 0 0 / 64 ≡ 2 → p ≤ length c → 26 ≤ p → answer 0 [] ≡ read_contents c
  roomy p e h n l m = sym (contents-is c _ (omega (arith, end_least c)))

  pub all_on : (p q : ℕ) → p ≡ payload_at c → q ≡ fields_end c → 3 ≤ length c → get_or c 0 0 / 64 ≡ 2 → p ≤ length c → q ≤ p → answer 0 [] ≡ read_contents c
  all_on p q e f h n l m = sym (contents-is c _ (omega arith))

pub times-fit : (c : List ℕ) → Accepted c → escr_at c ≤ length c
unfolding fields_end crc_at copy_info_at trick_at es_rate_at
times-fit c ok = omega arith

module _ (c : List ℕ) (ok : Accepted c) where
  pub three_there : 3 ≤ length c
  three_there = ok.fixed

  pub header_in : payload_at c ≤ length c
  header_in = ok.header

  pub fields_in : fields_end c ≤ payload_at c
  fields_in = ok.fields

  module _ (f : ℕ) (e : f ≡ field c pts_bit 2) where
    pub dts_there : (f ≡ 0 → ⊥) → (f ≡ 1 → ⊥) → (f ≡ 2 → ⊥) → 13 ≤ length c
    dts_there x y z = omega (arith, times-other c f e x y z, times-fit c ok)

    pub times-absent : f ≡ 0 → answer 9 [] ≡ read_pts_dts c
    unfolding read_pts_dts
    times-absent h = sym (ok.is _ ∙ simp (ne_eqb (bit c 8) 1 (omega (arith, two_flags c f e)), ne_eqb (bit c 9) 1 (omega (arith, two_flags c f e))))

    pub times-invalid : f ≡ 1 → answer 10 [] ≡ read_pts_dts c
    unfolding read_pts_dts
    times-invalid h = sym (ok.is _ ∙ simp (ne_eqb (bit c 8) 1 (omega (arith, two_flags c f e)), eq-eqb (bit c 9) 1 (omega (arith, two_flags c f e))))

    pub pts_alone : (s : Answer) → f ≡ 2 → s ≡ read_stamp (drop 3 c) → answer 0 (1 ∷ inner s) ≡ read_pts_dts c
    unfolding read_pts_dts
    pts_alone s h q =
        sym (ok.is _ ∙ simp (eq-eqb (bit c 8) 1 (omega (arith, two_flags c f e)), ne_eqb (bit c 9) 1 (omega (arith, two_flags c f e)), ← q))

    pub pts_and_dts : (s t : Answer) → (f ≡ 0 → ⊥) → (f ≡ 1 → ⊥) → (f ≡ 2 → ⊥)
        → s ≡ read_stamp (drop 3 c) → t ≡ read_stamp (drop 8 c) → answer 0 (2 ∷ inner s ++ inner t) ≡ read_pts_dts c
    unfolding read_pts_dts
    pts_and_dts s t x y z p q =
        sym (ok.is _ ∙ simp (eq-eqb (bit c 8) 1 (omega (arith, two_flags c f e)), eq-eqb (bit c 9) 1 (omega (arith, two_flags c f e)), ← p, ← q))

  -- a field that is there lies within the contents, and is read off its bytes
  module _ (at : ℕ) (p : at ≡ escr_at c) (n : bit c escr_bit ≡ 1) where
    pub escr-fits : at + 6 ≤ length c
    unfolding fields_end crc_at copy_info_at trick_at es_rate_at
    escr-fits = omega arith

    pub escr-there : escr_answer (six c at) ≡ read_escr c
    escr-there = escr-of c at ∙ rw p (sym (field-on c escr_bit _ ok n))

  module _ (at : ℕ) (p : at ≡ es_rate_at c) (n : bit c es_rate_bit ≡ 1) where
    pub rate-fits : at + 3 ≤ length c
    unfolding fields_end crc_at copy_info_at trick_at
    rate-fits = omega arith

    pub rate-there : answer 0 (rate_of (three c at) ∷ []) ≡ read_es_rate c
    rate-there = rw (three_of c at, p) (sym (field-on c es_rate_bit _ ok n))

  module _ (at : ℕ) (p : at ≡ trick_at c) (n : bit c trick_bit ≡ 1) where
    pub trick-fits : at < length c
    unfolding fields_end crc_at copy_info_at
    trick-fits = omega arith

    pub trick-there : answer 0 (trick_byte (get_or c at 0)) ≡ read_trick c
    trick-there = rw (← trick-of c at trick-fits, p) (sym (field-on c trick_bit _ ok n))

    pub raw_there : Known c → answer 0 (get_or c at 0 ∷ []) ≡ read_raw_trick c
    raw_there k = rw (← first-left at c, ← byte-field (drop at c) 0 (omega (arith, first-left at c, k at)), p) (sym (field-on c trick_bit _ ok n))

  module _ (at : ℕ) (p : at ≡ copy_info_at c) (n : bit c copy_info_bit ≡ 1) where
    pub copy-fits : at < length c
    unfolding fields_end crc_at
    copy-fits = omega arith

    pub copy-there : copy_info_of (get_or c at 0 ∷ []) ≡ read_copy_info c
    copy-there = copy_of c at copy-fits ∙ rw p (sym (field-on c copy_info_bit _ ok n))

  module _ (at : ℕ) (p : at ≡ crc_at c) (n : bit c crc_bit ≡ 1) where
    pub crc-fits : at + 2 ≤ length c
    unfolding fields_end
    crc-fits = omega arith

    pub crc-there : answer 0 (field (two c at) 0 16 ∷ []) ≡ read_crc c
    crc-there = rw (two_of c at, p) (sym (field-on c crc_bit _ ok n))

-- the trick mode, by what is answered of its byte
module _ (c : List ℕ) where
  -- a refusal of one reader of a field is that of each
  pub refused-alike : (i : ℕ) (vs : List ℕ) (r : Refusal) → refused r ≡ flagged i c (answer 0 vs) → (a : Answer) → refused r ≡ flagged i c a
  unfolding flagged
  refused-alike i vs r e a = go (flag c i) e
    where
      go : (f : Bool)
          → refused r ≡ unless (not_contents c) (pick (not f) (answer 9 []) (answer 0 vs))
          → refused r ≡ unless (not_contents c) (pick (not f) (answer 9 []) a)
      go true e = refused_by (not_contents c) (answer 0 vs) refl (refused r) (refused_above r) e a
      go false e = e

  -- what is answered of a field shows that it is there
  given-there : (i : ℕ) (vs : List ℕ) (a : Answer) → answer 0 vs ≡ flagged i c a → Accepted c × (bit c i ≡ 1)
  unfolding flagged not_contents
  given-there i vs a e =
      let ok : Accepted c = passes c (passed (not_contents c) _ (omega arith) (sym (ap (λ (s : Answer). s.number) e))) in
      (ok, go (flag c i) refl (e ∙ ok.is _))
    where
      go : (f : Bool) → flag c i ≡ f → answer 0 vs ≡ pick (not f) (answer 9 []) a → bit c i ≡ 1
      go true g h = eqb-true _ _ g
      go false g h = let z : ◌≡◌ {A = ℕ} 0 9 = ap (λ (s : Answer). s.number) h in absurd (omega arith)

  pub raw-trick : (n : ℕ) → Known c → answer 0 (n ∷ []) ≡ read_raw_trick c → answer 0 (trick_byte n) ≡ read_trick c
  raw-trick n k e =
      let h = given-there 12 (n ∷ []) _ e in
      let b : n ≡ get_or c (trick_at c) 0 = ap (λ (s : Answer). get_or s.values 0 0) (e ∙ sym (raw_there c h.0 (trick_at c) refl h.1 k)) in
      rw b (trick-there c h.0 (trick_at c) refl h.1)

-- ---- by the bytes: three of the clock reference make fifteen bits

fifteen : (a b d u v w : ℕ) → (a ≡ u) × (a < 256) → (b ≡ v) × (b < 256) → (d ≡ w) × (d < 256)
    → a % 4 * 8192 + b * 32 + d / 8 ≡ u % 4 * 8192 + v % 256 * 32 + w / 8 % 32
fifteen a b d u v w p q r = omega arith

module _ (u v w r s t : ℕ) where
  pub base-bytes : (a b d x y : ℕ) → (a ≡ u) × (a < 256) → (b ≡ v) × (b < 256) → (d ≡ w) × (d < 256) → (x ≡ r) × (x < 256) → (y ≡ s) × (y < 256)
      → a / 8 % 8 * 1073741824 + (a % 4 * 8192 + b * 32 + d / 8) * 32768 + (d % 4 * 8192 + x * 32 + y / 8) ≡ escr_base (u ∷ v ∷ w ∷ r ∷ s ∷ t ∷ [])
  unfolding escr_base
  base-bytes a b d x y ea eb ed ex ey =
      let xs : List ℕ = u ∷ v ∷ w ∷ r ∷ s ∷ t ∷ [] in
      rw (fifteen a b d u v w ea eb ed, fifteen d x y w r s ed ex ey, ea.0, in_byte xs 0 2 3 3 refl, escr-middle xs, escr-low xs)

  pub extension-bytes : (y z : ℕ) → (y ≡ s) × (y < 256) → (z ≡ t) × (z < 256) → y % 4 * 128 + z / 2 ≡ escr_extension (u ∷ v ∷ w ∷ r ∷ s ∷ t ∷ [])
  unfolding escr_extension
  extension-bytes y z ey ez = omega (arith, escr-last (u ∷ v ∷ w ∷ r ∷ s ∷ t ∷ []))

-- the other fields, by their bytes
pub rate-bytes : (u v w a b d : ℕ) → (u ≡ a) × (u < 256) → (v ≡ b) × (v < 256) → (w ≡ d) × (w < 256) → u % 128 * 32768 + v * 128 + w / 2 ≡ rate_of (a ∷ b ∷ d ∷ [])
rate-bytes u v w a b d i j k = omega (arith, rate-of (a ∷ b ∷ d ∷ []) 0)

pub crc-bytes : (u v a b : ℕ) → (u ≡ a) × (u < 256) → (v ≡ b) × (v < 256) → u * 256 + v ≡ field (a ∷ b ∷ []) 0 16
crc-bytes u v a b i j = omega (arith, crc-of (a ∷ b ∷ []) 0)

module _ (b : ℕ) where
  pub copy-marker : b / 128 ≡ 0 → answer 12 (0 ∷ []) ≡ copy_info_of (b ∷ [])
  unfolding bit
  copy-marker m = rw (ne_eqb (bit (b ∷ []) 0) 1 (omega arith))

  pub copy-value : b < 256 → (b / 128 ≡ 0 → ⊥) → answer 0 (b % 128 ∷ []) ≡ copy_info_of (b ∷ [])
  unfolding bit
  copy-value l m = rw (eq-eqb (bit (b ∷ []) 0) 1 (omega arith), in_byte (b ∷ []) 0 1 7 0 refl, div-one)

-- all places, by the flags' byte, and by the entries
pub places-are : (c : List ℕ) → places_of (flag_byte (get_or c 1 0)) ≡ places_of c
unfolding places_of fields_end crc_at copy_info_at trick_at es_rate_at escr_at times_size bit
places-are c = refl

module _ (f : ℕ) (h : f < 256) where
  pub all_placed : (e r t i s x p : ℕ) → e ≡ fields_end (flag_byte (f / 64 * 64)) → r ≡ fields_end (flag_byte (f / 32 * 32)) → t ≡ fields_end (flag_byte (f / 16 * 16))
      → i ≡ fields_end (flag_byte (f / 8 * 8)) → s ≡ fields_end (flag_byte (f / 4 * 4)) → x ≡ fields_end (flag_byte f)
      → e ∷ r ∷ t ∷ i ∷ s ∷ x ∷ p ∷ [] ≡ places_of (flag_byte f) ++ p ∷ []
  unfolding places_of
  all_placed e r t i s x p a b d g k l =
      let c : List ℕ = flag_byte f in
      rw (a, b, d, g, k, l, times-end c h, escr-end c h, rate-end c h, trick-end c h, copy-end c h)

-- a part, by where it is said to lie
pub no_part : (xs : List ℕ) (r : Refusal) → part_of (refused r) xs ≡ []
no_part xs r = sym (part_none (refused r) (refused r) xs (refused_above r) refl)

pub extension-part : (c : List ℕ) (p n : ℕ) → answer 0 (p ∷ n ∷ []) ≡ read_pes_extension c → part_at p n c ≡ part_of (read_pes_extension c) c
extension-part c p n e = part-done _ _ p n e (extension-within c)

pub payload-part : (c : List ℕ) (p n : ℕ) → answer 0 (p ∷ n ∷ []) ≡ read_parsed_payload c → part_at p n c ≡ part_of (read_parsed_payload c) c
payload-part c p n e = part-done _ _ p n e (payload-within c)

-- the trick mode byte
pub truncation-is : (b : ℕ) → truncation_bits b ≡ b % 4
truncation-is b = in_byte (b ∷ []) 0 6 2 0 refl ∙ rw div-one

module _ (b : ℕ) (l : b < 256) where
  control-is : (k : ℕ) → b / 32 ≡ k → control (b ∷ []) ≡ k
  unfolding control
  control-is k h = omega (arith, in_byte (b ∷ []) 0 0 3 5 refl)

  fast-fields : (t : ℕ) → t ≡ truncation_bits b
      → (b / 8 % 4) ∷ truth (eqb (b / 4 % 2) 1) ∷ t ∷ [] ≡ field (b ∷ []) 3 2 ∷ bit (b ∷ []) 5 ∷ field (b ∷ []) 6 2 ∷ []
  unfolding bit
  fast-fields t e = rw (e, in_byte (b ∷ []) 0 3 2 3 refl, bit-truth (b / 4 % 2) (omega arith))

  pub fast_forward : (t : ℕ) → b / 32 ≡ 0 → t ≡ truncation_bits b → 0 ∷ (b / 8 % 4) ∷ truth (eqb (b / 4 % 2) 1) ∷ t ∷ [] ≡ trick_byte b
  unfolding trick_of
  fast_forward t k e = simp (control-is 0 k) (ap (λ (vs : List ℕ). 0 ∷ vs) (fast-fields t e))

  pub slow_motion : b / 32 ≡ 1 → 1 ∷ (b / 32) ∷ [] ≡ trick_byte b
  unfolding trick_of
  slow_motion k = simp (control-is 1 k, k)

  pub freeze_frame : b / 32 ≡ 2 → 2 ∷ (b / 8 % 4) ∷ (b % 8) ∷ [] ≡ trick_byte b
  unfolding trick_of
  freeze_frame k = simp (control-is 2 k, in_byte (b ∷ []) 0 3 2 3 refl, in_byte (b ∷ []) 0 5 3 0 refl, div-one)

  pub fast-reverse : (t : ℕ) → b / 32 ≡ 3 → t ≡ truncation_bits b → 3 ∷ (b / 8 % 4) ∷ truth (eqb (b / 4 % 2) 1) ∷ t ∷ [] ≡ trick_byte b
  unfolding trick_of
  fast-reverse t k e = simp (control-is 3 k) (ap (λ (vs : List ℕ). 3 ∷ vs) (fast-fields t e))

  pub slow-reverse : b / 32 ≡ 4 → 4 ∷ (b / 32) ∷ [] ≡ trick_byte b
  unfolding trick_of
  slow-reverse k = simp (control-is 4 k, k)

  pub reserved-mode : (b / 32 ≡ 0 → ⊥) → (b / 32 ≡ 1 → ⊥) → (b / 32 ≡ 2 → ⊥) → (b / 32 ≡ 3 → ⊥) → (b / 32 ≡ 4 → ⊥) → 5 ∷ (b / 32) ∷ [] ≡ trick_byte b
  unfolding trick_of
  reserved-mode p q x y z =
      simp (control-is (b / 32) refl, ne_eqb (b / 32) 0 p, ne_eqb (b / 32) 1 q, ne_eqb (b / 32) 2 x, ne_eqb (b / 32) 3 y, ne_eqb (b / 32) 4 z)

-- What the tactics are given: the laws of a function's kind and no others, so that a wrong answer is refused soon.
pub ruleset fixed_laws = (
  bit-is,
  first-flags,
  end_at,
  times_none,
  times-one,
  times-other,
  escr-end,
  rate-end,
  trick-end,
  copy-end,
  crc-end,
  pts-end,
  dts-end,
  entry-is,
  all_placed,
)

pub ruleset head_laws = (short, bad_check, past_buffer, past-header, roomy, all_on)

pub ruleset reader_laws = (
  accepted,
  accepted-is,
  refused-by,
  refused-field,
  refused-times,
  three_there,
  priority-is,
  scrambling-is,
  original-is,
  flags-is,
  length-is,
  field-one,
  bit-is,
)

pub ruleset times_laws = (accepted, three_there, dts_there, times-absent, times-invalid, pts_alone, pts_and_dts)

pub ruleset flagged_laws = (accepted, three_there, flag-set, flag-clear, field_off)

pub ruleset escr_laws = (escr-fits, escr-there, flagged_laws)

pub ruleset rate_laws = (rate-fits, rate-there, flagged_laws)

pub ruleset raw_laws = (trick-fits, raw_there, raw-trick, refused-alike, flagged_laws)

pub ruleset copy_laws = (copy-fits, copy-there, flagged_laws)

pub ruleset crc_laws = (crc-fits, crc-there, flagged_laws)

pub ruleset part_laws = (header_in, fields_in, field-on, accepted-is, places-are, no_part, extension-part, payload-part, refused-by, flagged_laws)

pub ruleset byte_laws = (escr-is, base-bytes, extension-bytes, rate-bytes, crc-bytes, copy-marker, copy-value, rate-in, rate-out, bytes-in, bytes-out)

pub ruleset trick_laws = (truncation-is, fast_forward, slow_motion, freeze_frame, fast-reverse, slow-reverse, reserved-mode)
