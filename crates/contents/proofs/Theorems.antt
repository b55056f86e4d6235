-- The crate's theorems that belong to no one function: one answer only, where the original's sense of a field is the standard's, and that
-- what a writer lays out is read back.
-- That both parts lie within the contents is in `Laws`, where the functions cite it.
-- Assumes nothing.
use mathlib.Core.Path.{◌≡◌, refl, sym, ap, ap₂, ◌∙◌}
use mathlib.Core.Bool.{Bool, true, false}
use mathlib.Core.List.{List, [], ◌∷◌, ◌++◌}
use mathlib.Core.Logic.{◌↔◌, ◌⊎◌, inl, inr}
use Prim.Native.Nat.{ℕ, ◌+◌, ◌*◌, ◌^◌, ◌≤◌, ◌<◌}
use native.Mathlib.Omega.{arith}
use lib.ListN.{length, get_or, drop, length-drop}
use Rattle.std.specs.Prelude.{Result, Ok, Err}
use lib.Dec.{eqb}
use borrow.Author.Tests.{eqb-true, le-ltb}
use Rattle.bits.specs.Answer.{Answer, answer, pick}
use Rattle.bits.specs.Field.{bit, field, flag}
use Rattle.bits.specs.Numbers.{done, marker_bit_not_set}
use Rattle.bits.proofs.Checks.{passed}
use Rattle.bits.proofs.Packs.{RowIn, RowFits, row-front}
use Rattle.bits.proofs.Refusals.{back_refusal, back_refusal-refused, refused-not_done, refused_above, given_one}
use Rattle.bits.specs.Refused.{given, no_values, number_values, extent_values}
use Rattle.bits.specs.declared.Extent.{Extent}
use Rattle.bits.specs.declared.refusal.Refusal.{Refusal}
use Rattle.bits.specs.declared.refusal.Refusal.TheVariants.{MarkerBitNotSet}
use Rattle.timestamp.specs.declared.Timestamp.{Timestamp}
use Rattle.timestamp.specs.Stamp.{timestamp_values, stamp_value, read_stamp}
use Rattle.control.specs.declared.ClockRef.{ClockRef}
use Rattle.control.specs.Clock.{clock_values}
use Rattle.contents.specs.declared.DataAlignment.{DataAlignment}
use Rattle.contents.specs.declared.CopyrightStatus.{CopyrightStatus}
use Rattle.contents.specs.declared.OriginalOrCopy.{OriginalOrCopy}
use Rattle.contents.specs.declared.PtsDts.{PtsDts}
use Rattle.contents.specs.declared.EsRate.{EsRate}
use Rattle.contents.specs.declared.FrequencyTruncationCoefficientSelection.{FrequencyTruncationCoefficientSelection}
use Rattle.contents.specs.declared.DsmTrickMode.{DsmTrickMode}
use Rattle.contents.specs.declared.ClockParts.{ClockParts}
use Rattle.contents.specs.declared.fields.Places.{Places}
use Rattle.contents.specs.Given.{alignment_values, status_bit, status_values, standard_copyright, originality_values, pts_dts_values, rate_values}
use Rattle.contents.specs.Given.{truncation, trick_values, places_values}
use Rattle.contents.specs.Contents.{escr_bit, es_rate_bit, trick_bit, copy_info_bit, crc_bit, escr_at, es_rate_at, trick_at, copy_info_at, crc_at}
use Rattle.contents.specs.Contents.{times_size, not_contents, inner, flagged, read_contents, read_pts_dts}
use Rattle.contents.specs.Contents.{escr_base, escr_extension, escr_answer, read_escr, rate_of, read_es_rate}
use Rattle.contents.specs.Contents.{copy_info_of, read_copy_info, read_crc}
use Rattle.contents.specs.Layout.{escr_table, escr_bytes, rate_table, es_rate_bytes, trick_table, trick_bytes, copy_table, copy_info_bytes}
use Rattle.contents.specs.Layout.{crc_table, crc_bytes}
use Rattle.contents.specs.Trick.{control, trick_of, standard_trick, read_raw_trick}
use Rattle.bits.proofs.Fields.{truth-bit, field-one}
use Rattle.contents.proofs.Laws.{Accepted, passes, accepted-by, field-on, times-fit}

-- ---- one answer only: any two answers that meet a reader's promise are equal

-- the value of a reader that gives one
abbrev value : List ℕ → ℕ
value vs = get_or vs 0 0

pub one-contents : (s : Answer) (a b : Result (Unit {0}) Refusal) → given no_values a ≡ s → given no_values b ≡ s → a ≡ b
one-contents = given_one no_values (λ vs. tt) (λ x. refl)

pub one_byte : (s : Answer) (a b : Result ℕ Refusal) → given number_values a ≡ s → given number_values b ≡ s → a ≡ b
one_byte = given_one number_values value (λ n. refl)

alignment_back : List ℕ → DataAlignment
alignment_back vs = pick (eqb (value vs) 1) DataAlignment.Aligned DataAlignment.NotAligned

alignment_back-values : (a : DataAlignment) → alignment_back (alignment_values a) ≡ a
unfolding alignment_back
alignment_back-values DataAlignment.Aligned = refl
alignment_back-values DataAlignment.NotAligned = refl

pub one-alignment : (s : Answer) (a b : Result DataAlignment Refusal) → given alignment_values a ≡ s → given alignment_values b ≡ s → a ≡ b
one-alignment = given_one alignment_values alignment_back alignment_back-values

status_back : List ℕ → CopyrightStatus
status_back vs = pick (eqb (value vs) 1) CopyrightStatus.Undefined CopyrightStatus.Protected

status_back-values : (k : CopyrightStatus) → status_back (status_values k) ≡ k
unfolding status_back
status_back-values CopyrightStatus.Undefined = refl
status_back-values CopyrightStatus.Protected = refl

pub one-copyright : (s : Answer) (a b : Result CopyrightStatus Refusal) → given status_values a ≡ s → given status_values b ≡ s → a ≡ b
one-copyright = given_one status_values status_back status_back-values

originality_back : List ℕ → OriginalOrCopy
originality_back vs = pick (eqb (value vs) 1) OriginalOrCopy.Original OriginalOrCopy.Copy

originality_back-values : (o : OriginalOrCopy) → originality_back (originality_values o) ≡ o
unfolding originality_back
originality_back-values OriginalOrCopy.Original = refl
originality_back-values OriginalOrCopy.Copy = refl

pub one-original : (s : Answer) (a b : Result OriginalOrCopy Refusal) → given originality_values a ≡ s → given originality_values b ≡ s → a ≡ b
one-original = given_one originality_values originality_back originality_back-values

-- the number and the values of a timestamp within an answer
abbrev stamp : Result Timestamp Refusal → Answer
stamp p = given timestamp_values p

-- it is read, or a marker in it is not set
abbrev pub Marked : Answer → Type 0
Marked a = (a.number ≡ done) ⊎ (a.number ≡ marker_bit_not_set)

abbrev pub MarkedTimes : Result PtsDts Refusal → Type 0
MarkedTimes (Ok (PtsDts.PtsOnly p)) = Marked (given timestamp_values p)
MarkedTimes (Ok (PtsDts.Both p d)) = Marked (given timestamp_values p) × Marked (given timestamp_values d)
MarkedTimes (Err r) = Unit {0}

pub stamp-marked : (xs : List ℕ) → 5 ≤ length xs → Marked (read_stamp xs)
unfolding read_stamp
stamp-marked xs h = rw (le-ltb (length xs) 5 h) (go (eqb (bit xs 7) 0) (eqb (bit xs 23) 0) (eqb (bit xs 39) 0))
  where
    go : (p q r : Bool)
        → Marked (pick p (answer 12 (7 ∷ [])) (pick q (answer 12 (23 ∷ [])) (pick r (answer 12 (39 ∷ [])) (answer 0 (stamp_value xs ∷ [])))))
    go true q r = inr refl
    go false true r = inr refl
    go false false true = inr refl
    go false false false = inl refl

-- no other refusal of a timestamp arises
module _ (c : List ℕ) where
  times_there : Accepted c → flag c 8 ≡ true → 8 + 5 * bit c 9 ≤ length c
  unfolding escr_at times_size
  times_there ok e = let h : 3 + pick (flag c 8) (5 + 5 * bit c 9) 0 ≤ length c = times-fit c ok in omega (arith, rw e at h)

  stamp_there : (at : ℕ) (p : Result Timestamp Refusal) → at + 5 ≤ length c → (stamp p).number ≡ (read_stamp (drop at c)).number → Marked (stamp p)
  stamp_there at p h e = rw e (stamp-marked (drop at c) (simp length-drop (omega arith)))

  pub pts_dts-marked : (a : Result PtsDts Refusal) → given pts_dts_values a ≡ read_pts_dts c → MarkedTimes a
  unfolding read_pts_dts not_contents
  pts_dts-marked (Err r) e = tt
  pts_dts-marked (Ok t) e =
      let ok : Accepted c = passes c (passed (not_contents c) _ (omega arith) (sym (ap (λ (s : Answer). s.number) e))) in
      go t ok (flag c 8) refl (flag c 9) refl (e ∙ ok.is _)
    where
      number : Answer → ℕ
      number s = s.number

      at : ℕ → Answer → ℕ
      at i s = get_or s.values i 0

      go : (t : PtsDts) → Accepted c → (p : Bool) → flag c 8 ≡ p → (d : Bool) → flag c 9 ≡ d
          → answer 0 (pts_dts_values t) ≡ pick p
          (pick d (answer 0 (2 ∷ inner (read_stamp (drop 3 c)) ++ inner (read_stamp (drop 8 c)))) (answer 0 (1 ∷ inner (read_stamp (drop 3 c)))))
          (pick d (answer 10 []) (answer 9 [])) → MarkedTimes (Ok t)
      go t ok false p true d e = absurd (omega (arith, ap number e))
      go t ok false p false d e = absurd (omega (arith, ap number e))
      go (PtsDts.PtsOnly x) ok true p true d e = absurd (omega (arith, ap (at 0) e))
      go (PtsDts.Both x y) ok true p false d e = absurd (omega (arith, ap (at 0) e))
      go (PtsDts.PtsOnly x) ok true p false d e = stamp_there 3 x (omega (arith, times_there ok p)) (ap (at 1) e)
      go (PtsDts.Both x y) ok true p true d e =
          let h : 13 ≤ length c = omega (arith, times_there ok p, eqb-true (bit c 9) 1 d) in
          (stamp_there 3 x (omega arith) (ap (at 1) e), stamp_there 8 y (omega arith) (ap (at 3) e))

stamp_back : ℕ → ℕ → Result Timestamp Refusal
stamp_back n v = pick (eqb n 0) (Ok (record { val = v })) (Err (MarkerBitNotSet v))

stamp_back-given : (p : Result Timestamp Refusal) → Marked (stamp p) → stamp_back (stamp p).number (value (stamp p).values) ≡ p
unfolding stamp_back back_refusal
stamp_back-given (Ok t) m = refl
stamp_back-given (Err r) (inl e) = absurd (omega (arith, refused_above r))
stamp_back-given (Err r) (inr e) = simp e (ap Err (simp e at (back_refusal-refused r)))

times_back : List ℕ → PtsDts
times_back vs =
    let v : ℕ → ℕ = λ i. get_or vs i 0 in
    pick (eqb (v 0) 1) (PtsDts.PtsOnly (stamp_back (v 1) (v 2))) (PtsDts.Both (stamp_back (v 1) (v 2)) (stamp_back (v 3) (v 4)))

pts_dts_back : Answer → Result PtsDts Refusal
pts_dts_back s = pick (eqb s.number 0) (Ok (times_back s.values)) (Err (back_refusal s))

pts_dts_back-given : (a : Result PtsDts Refusal) → MarkedTimes a → pts_dts_back (given pts_dts_values a) ≡ a
unfolding pts_dts_back times_back
pts_dts_back-given (Ok (PtsDts.PtsOnly p)) m = ap (λ (x : Result Timestamp Refusal). Ok (PtsDts.PtsOnly x)) (stamp_back-given p m)
pts_dts_back-given (Ok (PtsDts.Both p d)) m =
    ap₂ (λ (x y : Result Timestamp Refusal). Ok (PtsDts.Both x y)) (stamp_back-given p m.0) (stamp_back-given d m.1)
pts_dts_back-given (Err r) m = refused-not_done r _ _ ∙ ap Err (back_refusal-refused r)

pub one-marked : (s : Answer) (a b : Result PtsDts Refusal) → MarkedTimes a → MarkedTimes b
    → given pts_dts_values a ≡ s → given pts_dts_values b ≡ s → a ≡ b
one-marked s a b m n p q = sym (pts_dts_back-given a m) ∙ (ap pts_dts_back (p ∙ sym q) ∙ pts_dts_back-given b n)

pub one-pts_dts : (c : List ℕ) (a b : Result PtsDts Refusal)
    → given pts_dts_values a ≡ read_pts_dts c → given pts_dts_values b ≡ read_pts_dts c → a ≡ b
one-pts_dts c a b p q = one-marked (read_pts_dts c) a b (pts_dts-marked c a p) (pts_dts-marked c b q) p q

pub one-escr : (s : Answer) (a b : Result ClockRef Refusal) → given clock_values a ≡ s → given clock_values b ≡ s → a ≡ b
one-escr = given_one clock_values (λ vs. record { base = get_or vs 0 0; extension = get_or vs 1 0 }) (λ c. refl)

pub one-rate-made : (s : Answer) (a b : Result EsRate Refusal) → given rate_values a ≡ s → given rate_values b ≡ s → a ≡ b
one-rate-made = given_one rate_values (λ vs. record { 0 = value vs }) (λ e. refl)

pub one-rate-number : (s : Answer) (a b : Result ℕ Refusal) → given number_values a ≡ s → given number_values b ≡ s → a ≡ b
one-rate-number = one_byte

pub one-es-rate : (s : Answer) (a b : Result EsRate Refusal) → given rate_values a ≡ s → given rate_values b ≡ s → a ≡ b
one-es-rate = one-rate-made

truncation_back : ℕ → FrequencyTruncationCoefficientSelection
truncation_back n =
    pick (eqb n 0) FrequencyTruncationCoefficientSelection.DCNonZero
    (pick (eqb n 1) FrequencyTruncationCoefficientSelection.FirstThreeNonZero
    (pick (eqb n 2) FrequencyTruncationCoefficientSelection.FirstSixNonZero FrequencyTruncationCoefficientSelection.AllMaybeNonZero))

truncation_back-given : (t : FrequencyTruncationCoefficientSelection) → truncation_back (truncation t) ≡ t
unfolding truncation_back
truncation_back-given FrequencyTruncationCoefficientSelection.DCNonZero = refl
truncation_back-given FrequencyTruncationCoefficientSelection.FirstThreeNonZero = refl
truncation_back-given FrequencyTruncationCoefficientSelection.FirstSixNonZero = refl
truncation_back-given FrequencyTruncationCoefficientSelection.AllMaybeNonZero = refl

mode_back : List ℕ → DsmTrickMode
mode_back vs =
    pick (eqb (get_or vs 0 0) 0) (DsmTrickMode.FastForward (get_or vs 1 0) (eqb (get_or vs 2 0) 1) (truncation_back (get_or vs 3 0)))
    (pick (eqb (get_or vs 0 0) 1) (DsmTrickMode.SlowMotion (get_or vs 1 0))
    (pick (eqb (get_or vs 0 0) 2) (DsmTrickMode.FreezeFrame (get_or vs 1 0) (get_or vs 2 0))
    (pick (eqb (get_or vs 0 0) 3) (DsmTrickMode.FastReverse (get_or vs 1 0) (eqb (get_or vs 2 0) 1) (truncation_back (get_or vs 3 0)))
    (pick (eqb (get_or vs 0 0) 4) (DsmTrickMode.SlowReverse (get_or vs 1 0))
    (DsmTrickMode.Reserved (get_or vs 1 0))))))

mode_back-values : (m : DsmTrickMode) → mode_back (trick_values m) ≡ m
unfolding mode_back
mode_back-values (DsmTrickMode.FastForward f i t) = ap₂ (DsmTrickMode.FastForward f) (truth-bit i) (truncation_back-given t)
mode_back-values (DsmTrickMode.SlowMotion n) = refl
mode_back-values (DsmTrickMode.FreezeFrame f n) = refl
mode_back-values (DsmTrickMode.FastReverse f i t) = ap₂ (DsmTrickMode.FastReverse f) (truth-bit i) (truncation_back-given t)
mode_back-values (DsmTrickMode.SlowReverse n) = refl
mode_back-values (DsmTrickMode.Reserved n) = refl

pub one-trick : (s : Answer) (a b : Result DsmTrickMode Refusal) → given trick_values a ≡ s → given trick_values b ≡ s → a ≡ b
one-trick = given_one trick_values mode_back mode_back-values

pub one_field : (s : Answer) (a b : Result ℕ Refusal) → given number_values a ≡ s → given number_values b ≡ s → a ≡ b
one_field = one_byte

pub one-copy-info : (s : Answer) (a b : Result ℕ Refusal) → given number_values a ≡ s → given number_values b ≡ s → a ≡ b
one-copy-info = one_byte

pub one-crc : (s : Answer) (a b : Result ℕ Refusal) → given number_values a ≡ s → given number_values b ≡ s → a ≡ b
one-crc = one_byte

pub one-part : (s : Answer) (a b : Result Extent Refusal) → given extent_values a ≡ s → given extent_values b ≡ s → a ≡ b
one-part = given_one extent_values (λ vs. record { place = get_or vs 0 0; length = get_or vs 1 0 }) (λ x. refl)

places_back : List ℕ → Places
places_back vs =
    let v : ℕ → ℕ = λ i. get_or vs i 0 in
    record {
      escr = v 0;
      es_rate = v 1;
      dsm_trick_mode = v 2;
      additional_copy_info = v 3;
      previous_pes_packet_crc = v 4;
      pes_extension = v 5;
      payload = v 6;
    }

places_back-values : (x : Places) → places_back (places_values x) ≡ x
unfolding places_back
places_back-values x = refl

pub one-places : (s : Answer) (a b : Result Places Refusal) → given places_values a ≡ s → given places_values b ≡ s → a ≡ b
one-places = given_one places_values places_back places_back-values

-- and of what is read off a field's own bytes
pub one-mode : (vs : List ℕ) (a b : DsmTrickMode) → trick_values a ≡ vs → trick_values b ≡ vs → a ≡ b
one-mode vs a b p q = sym (mode_back-values a) ∙ (ap mode_back (p ∙ sym q) ∙ mode_back-values b)

pub one-clock-parts : (n m : ℕ) (a b : ClockParts) → (a.base ≡ n) × (a.extension ≡ m) → (b.base ≡ n) × (b.extension ≡ m) → a ≡ b
one-clock-parts n m a b p q = ap₂ (λ (x y : ℕ). record { base = x; extension = y }) (p.0 ∙ sym q.0) (p.1 ∙ sym q.1)

-- ---- the original's sense and the standard's

-- of the copyright bit they never agree
pub copyright-never : (k : CopyrightStatus) (b : ℕ) → status_bit k ≡ b → standard_copyright b ≡ k → ⊥
copyright-never CopyrightStatus.Undefined b e f = let z : ◌≡◌ {A = ℕ} 0 1 = cc (ap standard_copyright e) in omega arith
copyright-never CopyrightStatus.Protected b e f = let z : ◌≡◌ {A = ℕ} 0 1 = cc (ap standard_copyright e) in omega arith

-- of the trick mode they agree in fast forward, freeze frame and fast reverse, and where the five bits happen to be the control number
abbrev pub Agreeing : List ℕ → Type 0
Agreeing xs = (control xs ≡ 0) ⊎ ((control xs ≡ 2) ⊎ ((control xs ≡ 3) ⊎ (field xs 3 5 ≡ control xs)))

trick-if : (xs : List ℕ) → Agreeing xs → trick_of xs ≡ standard_trick xs
unfolding trick_of standard_trick
trick-if xs (inl e) = simp e
trick-if xs (inr (inl e)) = simp e
trick-if xs (inr (inr (inl e))) = simp e
trick-if xs (inr (inr (inr e))) = simp e

-- a trick mode, given k where the two differ, by the tests of the control number against 0 to 4
abbrev modes : List ℕ → ℕ → Bool → Bool → Bool → Bool → Bool → List ℕ
modes xs k f m z r s =
    pick f (0 ∷ field xs 3 2 ∷ bit xs 5 ∷ field xs 6 2 ∷ [])
    (pick m (1 ∷ k ∷ [])
    (pick z (2 ∷ field xs 3 2 ∷ field xs 5 3 ∷ [])
    (pick r (3 ∷ field xs 3 2 ∷ bit xs 5 ∷ field xs 6 2 ∷ [])
    (pick s (4 ∷ k ∷ []) (5 ∷ k ∷ [])))))

trick-only_if : (xs : List ℕ) → trick_of xs ≡ standard_trick xs → Agreeing xs
unfolding trick_of standard_trick
trick-only_if xs = go (eqb (control xs) 0) refl (eqb (control xs) 1) (eqb (control xs) 2) refl (eqb (control xs) 3) refl (eqb (control xs) 4)
  where
    second : (k m n : ℕ) → k ∷ m ∷ [] ≡ k ∷ n ∷ [] → n ≡ m
    second k m n e = sym (ap (λ (vs : List ℕ). get_or vs 1 0) e)

    go : (f : Bool) → eqb (control xs) 0 ≡ f → (m z : Bool) → eqb (control xs) 2 ≡ z → (r : Bool) → eqb (control xs) 3 ≡ r → (s : Bool)
        → modes xs (control xs) f m z r s ≡ modes xs (field xs 3 5) f m z r s → Agreeing xs
    go true e m z g r h s q = inl (eqb-true _ _ e)
    go false e true z g r h s q = inr (inr (inr (second 1 _ _ q)))
    go false e false true g r h s q = inr (inl (eqb-true _ _ g))
    go false e false false g true h s q = inr (inr (inl (eqb-true _ _ h)))
    go false e false false g false h true q = inr (inr (inr (second 4 _ _ q)))
    go false e false false g false h false q = inr (inr (inr (second 5 _ _ q)))

pub trick-agrees : (xs : List ℕ) → (trick_of xs ≡ standard_trick xs) ↔ Agreeing xs
trick-agrees xs = (trick-only_if xs, trick-if xs)

-- ---- what a writer lays out by the tables is read back: the field's own bytes, whatever follows them

module _ (rest : List ℕ) where
  pub escr-back : (b e : ℕ) → b < 2 ^ 33 → e < 2 ^ 9 → escr_answer (escr_bytes b e ++ rest) ≡ answer done (b ∷ e ∷ [])
  unfolding escr_base escr_extension
  escr-back b e h l =
      let t = escr_table b e in
      let r : (i : ℕ) → i < 9 → RowFits t i 48 → RowIn t i (escr_bytes b e ++ rest) = λ i k l. row-front t 6 i rest refl k l in
      ap₂ (λ (y z : ℕ). answer 0 (y ∷ z ∷ []))
      (omega (arith, r 1 (omega arith) (omega arith), r 3 (omega arith) (omega arith), r 5 (omega arith) (omega arith)))
      (omega (arith, r 7 (omega arith) (omega arith)))

  pub rate-back : (v : ℕ) → v < 2 ^ 22 → rate_of (es_rate_bytes v ++ rest) ≡ v
  unfolding rate_of
  rate-back v h = omega (arith, row-front (rate_table v) 3 1 rest refl (omega arith) (omega arith))

  pub trick-back : (v : ℕ) → v < 2 ^ 8 → field (trick_bytes v ++ rest) 0 8 ≡ v
  trick-back v h = omega (arith, row-front (trick_table v) 1 0 rest refl (omega arith) (omega arith))

  pub copy-info_back : (v : ℕ) → v < 2 ^ 7 → copy_info_of (copy_info_bytes v ++ rest) ≡ answer done (v ∷ [])
  copy-info_back v h =
      let ys = copy_info_bytes v ++ rest in
      let m : bit ys 0 ≡ 1 = omega (arith, field-one ys 0, row-front (copy_table v) 1 0 rest refl (omega arith) (omega arith)) in
      let e : field ys 1 7 ≡ v = omega (arith, row-front (copy_table v) 1 1 rest refl (omega arith) (omega arith)) in
      rw (m, e)

  pub crc-back : (v : ℕ) → v < 2 ^ 16 → field (crc_bytes v ++ rest) 0 16 ≡ v
  crc-back v h = omega (arith, row-front (crc_table v) 2 0 rest refl (omega arith) (omega arith))

-- and by its reader, at the field's place in contents that are accepted
module _ (c rest : List ℕ) (h : read_contents c ≡ answer done []) where
  read_there : (i at : ℕ) (f : List ℕ → Answer) (xs : List ℕ) → flag c i ≡ true → drop at c ≡ xs → flagged i c (f (drop at c)) ≡ f xs
  read_there i at f xs g e = field-on c i _ (accepted-by c (ap (λ (a : Answer). a.number) h)) (eqb-true (bit c i) 1 g) ∙ ap f e

  pub escr-at_back : (b e : ℕ) → b < 2 ^ 33 → e < 2 ^ 9 → flag c escr_bit ≡ true → drop (escr_at c) c ≡ escr_bytes b e ++ rest
      → read_escr c ≡ answer done (b ∷ e ∷ [])
  escr-at_back b e k l f d = read_there escr_bit (escr_at c) escr_answer _ f d ∙ escr-back rest b e k l

  pub rate-at_back : (v : ℕ) → v < 2 ^ 22 → flag c es_rate_bit ≡ true → drop (es_rate_at c) c ≡ es_rate_bytes v ++ rest → read_es_rate c ≡ answer done (v ∷ [])
  rate-at_back v k f d = read_there es_rate_bit (es_rate_at c) (λ xs. answer 0 (rate_of xs ∷ [])) _ f d ∙ rw (rate-back rest v k)

  pub trick-at_back : (v : ℕ) → v < 2 ^ 8 → flag c trick_bit ≡ true → drop (trick_at c) c ≡ trick_bytes v ++ rest → read_raw_trick c ≡ answer done (v ∷ [])
  trick-at_back v k f d = read_there trick_bit (trick_at c) (λ xs. answer 0 (field xs 0 8 ∷ [])) _ f d ∙ rw (trick-back rest v k)

  pub copy-info_at_back : (v : ℕ) → v < 2 ^ 7 → flag c copy_info_bit ≡ true → drop (copy_info_at c) c ≡ copy_info_bytes v ++ rest
      → read_copy_info c ≡ answer done (v ∷ [])
  copy-info_at_back v k f d = read_there copy_info_bit (copy_info_at c) copy_info_of _ f d ∙ copy-info_back rest v k

  pub crc-at_back : (v : ℕ) → v < 2 ^ 16 → flag c crc_bit ≡ true → drop (crc_at c) c ≡ crc_bytes v ++ rest → read_crc c ≡ answer done (v ∷ [])
  crc-at_back v k f d = read_there crc_bit (crc_at c) (λ xs. answer 0 (field xs 0 16 ∷ [])) _ f d ∙ rw (crc-back rest v k)
