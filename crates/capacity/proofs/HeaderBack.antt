-- What is read from a header that the writer makes: every field as given, and the payload after it.
-- Assumes nothing.
use Rattle.std.specs.Prelude.{Option, None, Some}
use mathlib.Core.Path.{◌≡◌, refl, sym, ap, ◌∙◌}
use mathlib.Core.Bool.{Bool, true, false}
use mathlib.Core.List.{List, [], ◌∷◌, ◌++◌, append_assoc}
use Prim.Native.Nat.{ℕ, ◌+◌, ◌-◌, ◌*◌, ◌/◌, ◌%◌, ◌^◌, ◌≤◌, ◌<◌}
use native.Mathlib.Omega.{arith}
use lib.ListN.{length, take, drop, get_or, length-append, length-drop}
use lib.Seq.{drop_at, drop-drop, take_all}
use borrow.Author.Tests.{le-ltb, eq-eqb, ne_eqb}
use Rattle.bits.specs.Answer.{Answer, answer, truth, unless, part_of}
use Rattle.bits.specs.Field.{bit, field, flag}
use Rattle.bits.specs.Pack.{joined, bytes_of}
use Rattle.bits.proofs.Fields.{field-one, field-split, field-left, field-drop, bit-left, bit_below, in_byte}
use Rattle.bits.proofs.Packs.{length-bytes_of, RowIn, RowFits, row-front}
use Rattle.timestamp.specs.Stamp.{read_stamp, stamp_value, stamp_bytes}
use Rattle.timestamp.proofs.Theorems.{read_back_lem, stamp-length}
use Rattle.pes.specs.Stream.{parsed_id}
use Rattle.pes.specs.Head.{not_head, id_of, packet_length}
use Rattle.contents.specs.Contents.{data_length, times_size, escr_at, es_rate_at, trick_at, copy_info_at, crc_at, fields_end, payload_at, read_fixed}
use Rattle.contents.specs.Contents.{scrambling_bit, data_length_bit, escr_bit, es_rate_bit, trick_bit, copy_info_bit, crc_bit}
use Rattle.contents.specs.Contents.{read_contents, read_pts_dts, read_escr, read_es_rate, read_copy_info, read_crc, read_pes_extension}
use Rattle.contents.specs.Layout.{es_rate_bytes, trick_bytes, copy_info_bytes, crc_bytes}
use Rattle.contents.specs.Trick.{read_raw_trick}
use Rattle.contents.proofs.Laws.{Accepted, contents-is, field_off}
use Rattle.contents.proofs.Theorems.{escr-at_back, rate-at_back, trick-at_back, copy-info_at_back, crc-at_back}
use Rattle.pes_header.specs.Payload.{header_payload, payload_bytes}
use Rattle.writer.specs.declared.Times.{Times}
use Rattle.writer.specs.declared.Times.TheVariants.{Untimed, Pts, Both}
use Rattle.writer.specs.declared.Unit.{Unit}
use Rattle.writer.specs.Unit.{times_flags, field_flag, times_bytes, data_of}
use Rattle.writer.specs.Unit.{stated_length}
use Rattle.writer.specs.Packets.{head_table, times_image, escr_image, image, fields_image, header_image}
use Rattle.writer.proofs.Laws.{times-length, escr-length, rate-length, trick-length, copy-length, crc-length, header-length}
use Rattle.capacity.specs.Reads.{written_times, written_escr, written_field, written_bit, contents, HasFields}
use Rattle.capacity.specs.Demand.{at_most}
use Rattle.capacity.proofs.Permits.{TimesFit, EscrFits, UnitFits}

-- ---- lists

-- past a part of known length
skip : (a b c : List ℕ) (at len : ℕ) → drop at c ≡ a ++ b → length a ≡ len → drop (at + len) c ≡ b
skip a b c at len e l = sym (drop-drop len at c) ∙ (ap (drop len) e ∙ drop_at a b len l)

-- an answer by its value
given : {v w : ℕ} → v ≡ w → answer 0 (v ∷ []) ≡ answer 0 (w ∷ [])
given e = ap (λ (v : ℕ). answer 0 (v ∷ [])) e

-- ---- how long the fields are at most

flag_small : (f : Option ℕ) → field_flag f ≤ 1
flag_small None = omega arith
flag_small (Some v) = omega arith

escr-small : (e : Option (ℕ × ℕ)) → field_flag e ≤ 1
escr-small None = omega arith
escr-small (Some e) = omega arith

times-small : (t : Times) → (times_bytes t ≤ 10) × (times_flags t ≤ 3)
times-small Untimed = omega arith
times-small (Pts p) = omega arith
times-small (Both p d) = omega arith

pub data_small : (u : Unit) → data_of u ≤ 23
unfolding data_of
data_small u =
    omega (
      arith,
      times-small u.times,
      escr-small u.escr,
      flag_small u.rate,
      flag_small u.trick,
      flag_small u.copy,
      flag_small u.crc,
    )

-- ---- each field

-- the first five bytes count
stamp-front : (xs ys : List ℕ) → length xs ≡ 5 → read_stamp (xs ++ ys) ≡ read_stamp xs
unfolding read_stamp stamp_value
stamp-front xs ys h =
    rw (
      le-ltb (length (xs ++ ys)) 5 (omega (arith, length-append xs ys)),
      le-ltb (length xs) 5 (omega arith),
      bit-left xs ys 7 (omega arith),
      bit-left xs ys 23 (omega arith),
      bit-left xs ys 39 (omega arith),
      field-left xs ys 4 3 (omega arith),
      field-left xs ys 8 15 (omega arith),
      field-left xs ys 24 15 (omega arith),
    )

stamp-read : (p v : ℕ) (xs rest : List ℕ) → v < 2 ^ 33 → xs ≡ stamp_bytes p v ++ rest → read_stamp xs ≡ answer 0 (v ∷ [])
stamp-read p v xs rest h e = ap read_stamp e ∙ (stamp-front (stamp_bytes p v) rest (stamp-length p v) ∙ read_back_lem p v h)

-- the two bits of PTS_DTS_flags
two_bits : (c : List ℕ) (t : Times) → field c 8 2 ≡ times_flags t → bit c 8 * 2 + bit c 9 ≡ times_flags t
two_bits c t f = omega (arith, field-split c 8 1 1, field-one c 8, field-one c 9)

-- the size that they say
times-size : (c : List ℕ) (t : Times) → field c 8 2 ≡ times_flags t → times_size c ≡ times_bytes t
unfolding times_size
times-size c Untimed f = simp (ne_eqb (bit c 8) 1 (omega (arith, two_bits c Untimed f)))
times-size c (Pts p) f =
    let e : bit c 8 ≡ 1 = omega (arith, two_bits c (Pts p) f, bit_below c 8, bit_below c 9) in
    let g : bit c 9 ≡ 0 = omega (arith, two_bits c (Pts p) f) in
    simp (e, g)
times-size c (Both p d) f =
    let e : bit c 8 ≡ 1 = omega (arith, two_bits c (Both p d) f, bit_below c 8, bit_below c 9) in
    let g : bit c 9 ≡ 1 = omega (arith, two_bits c (Both p d) f) in
    simp (e, g)

module _ (c rest : List ℕ) (h : Accepted c) where
  times-read : (t : Times) → TimesFit t → field c 8 2 ≡ times_flags t → drop 3 c ≡ times_image t ++ rest → read_pts_dts c ≡ written_times t
  unfolding read_pts_dts times_image
  times-read Untimed k f e =
      let b : bit c 8 ≡ 0 = omega (arith, two_bits c Untimed f) in
      let d : bit c 9 ≡ 0 = omega (arith, two_bits c Untimed f) in
      h.is _ ∙ simp (b, d)
  times-read (Pts p) k f e =
      let b : bit c 8 ≡ 1 = omega (arith, two_bits c (Pts p) f, bit_below c 8, bit_below c 9) in
      let d : bit c 9 ≡ 0 = omega (arith, two_bits c (Pts p) f) in
      h.is _ ∙ simp (b, d, stamp-read 2 p (drop 3 c) rest k e)
  times-read (Both p q) k f e =
      let b : bit c 8 ≡ 1 = omega (arith, two_bits c (Both p q) f, bit_below c 8, bit_below c 9) in
      let d : bit c 9 ≡ 1 = omega (arith, two_bits c (Both p q) f) in
      let e' : drop 3 c ≡ stamp_bytes 3 p ++ (stamp_bytes 1 q ++ rest) = e ∙ append_assoc (stamp_bytes 3 p) (stamp_bytes 1 q) rest in
      let e'' : drop 8 c ≡ stamp_bytes 1 q ++ rest = skip (stamp_bytes 3 p) _ c 3 5 e' (stamp-length 3 p) in
      h.is _ ∙ simp (b, d, stamp-read 3 p (drop 3 c) _ k.0 e', stamp-read 1 q (drop 8 c) rest k.1 e'')

  -- the reader's own theorem asks for the plain facts
  accepts : read_contents c ≡ answer 0 []
  accepts = h.is (answer 0 [])

  on : (i : ℕ) → bit c i ≡ 1 → flag c i ≡ true
  on i e = eq-eqb (bit c i) 1 e

  escr-read : (f : Option (ℕ × ℕ)) → EscrFits f → bit c escr_bit ≡ field_flag f → drop (escr_at c) c ≡ escr_image f ++ rest → read_escr c ≡ written_escr f
  unfolding escr_image image
  escr-read None k f e = sym (field_off c escr_bit _ h f)
  escr-read (Some b) k f e = escr-at_back c rest accepts b.0 b.1 k.0 (omega arith) (on escr_bit f) e

  rate-read : (f : Option ℕ) → at_most (2 ^ 22 - 1) f → bit c es_rate_bit ≡ field_flag f → drop (es_rate_at c) c ≡ image es_rate_bytes f ++ rest
      → read_es_rate c ≡ written_field f
  unfolding image
  rate-read None k f e = sym (field_off c es_rate_bit _ h f)
  rate-read (Some v) k f e = rate-at_back c rest accepts v (omega arith) (on es_rate_bit f) e

  trick-read : (f : Option ℕ) → at_most 255 f → bit c trick_bit ≡ field_flag f → drop (trick_at c) c ≡ image trick_bytes f ++ rest
      → read_raw_trick c ≡ written_field f
  unfolding image
  trick-read None k f e = sym (field_off c trick_bit _ h f)
  trick-read (Some v) k f e = trick-at_back c rest accepts v (omega arith) (on trick_bit f) e

  copy_read : (f : Option ℕ) → at_most 127 f → bit c copy_info_bit ≡ field_flag f → drop (copy_info_at c) c ≡ image copy_info_bytes f ++ rest
      → read_copy_info c ≡ written_field f
  unfolding image
  copy_read None k f e = sym (field_off c copy_info_bit _ h f)
  copy_read (Some v) k f e = copy-info_at_back c rest accepts v (omega arith) (on copy_info_bit f) e

  crc-read : (f : Option ℕ) → at_most 65535 f → bit c crc_bit ≡ field_flag f → drop (crc_at c) c ≡ image crc_bytes f ++ rest
      → read_crc c ≡ written_field f
  unfolding image
  crc-read None k f e = sym (field_off c crc_bit _ h f)
  crc-read (Some v) k f e = crc-at_back c rest accepts v (omega arith) (on crc_bit f) e

-- ---- the whole header, with the bytes that follow it

truth-small : (b : Bool) → truth b ≤ 1
truth-small true = omega arith
truth-small false = omega arith

module _ (u : Unit) (n : ℕ) (ok : UnitFits u n) (pay : List ℕ) where
  abbrev ys : List ℕ
  ys = header_image u n ++ pay

  abbrev nine : List ℕ
  nine = bytes_of 9 (joined (head_table u n))

  form : ys ≡ nine ++ (fields_image u ++ pay)
  unfolding header_image
  form = append_assoc nine (fields_image u) pay

  all-length : length ys ≡ 9 + data_of u + length pay
  all-length = omega (arith, length-append (header_image u n) pay, header-length u n)

  head-row : (i : ℕ) → i < 17 → RowFits (head_table u n) i 72 → RowIn (head_table u n) i ys
  head-row i h l = rw form (row-front (head_table u n) 9 i (fields_image u ++ pay) refl h l)

  pub headed_back : (a : Answer) → unless (not_head ys) a ≡ a
  unfolding not_head
  headed_back a = rw (le-ltb (length ys) 6 (omega (arith, all-length)), eq-eqb (field ys 0 24) 1 (head-row 0 (omega arith) (omega arith)))

  pub id-back : id_of ys ≡ u.id
  unfolding id_of
  id-back = omega (arith, head-row 1 (omega arith) (omega arith), ok.id-byte)

  pub length_back_lem : packet_length ys ≡ stated_length u n
  unfolding packet_length
  length_back_lem = omega (arith, head-row 2 (omega arith) (omega arith), ok.length-fits)

  abbrev c : List ℕ
  c = contents ys

  check_back : field c 0 2 ≡ 2
  check_back = field-drop ys 6 0 2 ∙ head-row 3 (omega arith) (omega arith)

  scrambling-back : field c 2 2 ≡ 0
  scrambling-back = field-drop ys 6 2 2 ∙ head-row 4 (omega arith) (omega arith)

  priority-back : field c 4 1 ≡ truth u.priority
  priority-back = omega (arith, field-drop ys 6 4 1, head-row 5 (omega arith) (omega arith), truth-small u.priority)

  alignment-back : field c 5 1 ≡ truth u.alignment
  alignment-back = omega (arith, field-drop ys 6 5 1, head-row 6 (omega arith) (omega arith), truth-small u.alignment)

  copyright-back : field c 6 1 ≡ truth u.copyright
  copyright-back = omega (arith, field-drop ys 6 6 1, head-row 7 (omega arith) (omega arith), truth-small u.copyright)

  original-back : field c 7 1 ≡ truth u.original
  original-back = omega (arith, field-drop ys 6 7 1, head-row 8 (omega arith) (omega arith), truth-small u.original)

  times-flags : field c 8 2 ≡ times_flags u.times
  times-flags = omega (arith, field-drop ys 6 8 2, head-row 9 (omega arith) (omega arith), times-small u.times)

  escr-flag : bit c 10 ≡ field_flag u.escr
  escr-flag = omega (arith, field-one c 10, field-drop ys 6 10 1, head-row 10 (omega arith) (omega arith), escr-small u.escr)

  rate-flag : bit c 11 ≡ field_flag u.rate
  rate-flag = omega (arith, field-one c 11, field-drop ys 6 11 1, head-row 11 (omega arith) (omega arith), flag_small u.rate)

  trick-flag : bit c 12 ≡ field_flag u.trick
  trick-flag =
      omega (arith, field-one c 12, field-drop ys 6 12 1, head-row 12 (omega arith) (omega arith), flag_small u.trick)

  copy_flag : bit c 13 ≡ field_flag u.copy
  copy_flag = omega (arith, field-one c 13, field-drop ys 6 13 1, head-row 13 (omega arith) (omega arith), flag_small u.copy)

  crc-flag : bit c 14 ≡ field_flag u.crc
  crc-flag = omega (arith, field-one c 14, field-drop ys 6 14 1, head-row 14 (omega arith) (omega arith), flag_small u.crc)

  extension-flag : bit c 15 ≡ 0
  extension-flag = omega (arith, field-one c 15, field-drop ys 6 15 1, head-row 15 (omega arith) (omega arith))

  data_back : data_length c ≡ data_of u
  unfolding data_length
  data_back = omega (arith, field-drop ys 6 16 8, head-row 16 (omega arith) (omega arith), data_small u)

  -- each field stands after those before it
  abbrev after-copy : List ℕ
  after-copy = image crc_bytes u.crc ++ pay

  abbrev after-trick : List ℕ
  after-trick = image copy_info_bytes u.copy ++ after-copy

  abbrev after-rate : List ℕ
  after-rate = image trick_bytes u.trick ++ after-trick

  abbrev after-escr : List ℕ
  after-escr = image es_rate_bytes u.rate ++ after-rate

  abbrev after-times : List ℕ
  after-times = escr_image u.escr ++ after-escr

  times-at : drop 3 c ≡ times_image u.times ++ after-times
  unfolding fields_image
  times-at =
      drop-drop 3 6 ys
      ∙ (ap (drop 9) form ∙ (drop_at nine (fields_image u ++ pay) 9 (length-bytes_of 9 (joined (head_table u n))) ∙ simp append_assoc))

  escr-at : drop (escr_at c) c ≡ after-times
  unfolding escr_at
  escr-at =
      let l : length (times_image u.times) ≡ times_size c = times-length u.times ∙ sym (times-size c u.times times-flags) in
      skip (times_image u.times) after-times c 3 (times_size c) times-at l

  rate-at : drop (es_rate_at c) c ≡ after-escr
  unfolding es_rate_at
  rate-at = skip (escr_image u.escr) after-escr c (escr_at c) (6 * bit c 10) escr-at (omega (arith, escr-length u.escr, escr-flag))

  trick-at : drop (trick_at c) c ≡ after-rate
  unfolding trick_at
  trick-at =
      let f = u.rate in
      skip (image es_rate_bytes f) after-rate c (es_rate_at c) (3 * bit c 11) rate-at (omega (arith, rate-length f, rate-flag))

  copy_at : drop (copy_info_at c) c ≡ after-trick
  unfolding copy_info_at
  copy_at =
      let f = u.trick in
      skip (image trick_bytes f) after-trick c (trick_at c) (bit c 12) trick-at (omega (arith, trick-length f, trick-flag))

  crc-at : drop (crc_at c) c ≡ after-copy
  unfolding crc_at
  crc-at =
      let f = u.copy in
      skip (image copy_info_bytes f) after-copy c (copy_info_at c) (bit c 13) copy_at (omega (arith, copy-length f, copy_flag))

  end_at : drop (fields_end c) c ≡ pay
  unfolding fields_end
  end_at =
      let f = u.crc in
      skip (image crc_bytes f) pay c (crc_at c) (2 * bit c 14) crc-at (omega (arith, crc-length f, crc-flag))

  end_is : fields_end c ≡ 3 + data_of u
  unfolding fields_end crc_at copy_info_at trick_at es_rate_at escr_at data_of
  end_is = omega (arith, times-size c u.times times-flags, escr-flag, rate-flag, trick-flag, copy_flag, crc-flag)

  pub payload-is : payload_at c ≡ 3 + data_of u
  unfolding payload_at
  payload-is = omega (arith, data_back)

  contents-length : length c ≡ 3 + data_of u + length pay
  contents-length = omega (arith, length-drop 6 ys, all-length)

  pub accepted-back : Accepted c
  accepted-back =
      let a : 3 ≤ length c = omega (arith, contents-length) in
      let b : get_or c 0 0 / 64 % 4 ≡ 2 = sym (in_byte c 0 0 2 6 refl) ∙ check_back in
      let d : payload_at c ≤ length c = omega (arith, contents-length, payload-is) in
      let e : fields_end c ≤ payload_at c = omega (arith, payload-is, end_is) in
      record { fixed = a; header = d; fields = e; is = λ x. contents-is c x (a, b, d, e) }

  bit-given : (o : ℕ) (b : Bool) → field c o 1 ≡ truth b → read_fixed o 1 c ≡ written_bit b
  bit-given o b e = accepted-back.is _ ∙ given e

  -- every field as given
  pub fields_back : HasFields u ys
  fields_back =
      let a = accepted-back in
      record {
        head = headed_back (answer 0 []);
        id = id-back;
        accepted = a.is (answer 0 []);
        priority = bit-given 4 u.priority priority-back;
        alignment = bit-given 5 u.alignment alignment-back;
        copyright = bit-given 6 u.copyright copyright-back;
        original = bit-given 7 u.original original-back;
        times = times-read c after-times a u.times ok.times-fit times-flags times-at;
        escr = escr-read c after-escr a u.escr ok.escr-fits escr-flag escr-at;
        rate = rate-read c after-rate a u.rate ok.rate-fits rate-flag rate-at;
        trick = trick-read c after-trick a u.trick ok.trick-fits trick-flag trick-at;
        copy = copy_read c after-copy a u.copy ok.copy-fits copy_flag copy_at;
        crc = crc-read c pay a u.crc ok.crc-fits crc-flag crc-at;
      }

  -- and the payload after the header
  pub payload-after : payload_bytes ys ≡ pay
  unfolding payload_bytes header_payload part_of
  payload-after =
      let p : parsed_id (id_of ys) ≡ true = ap parsed_id id-back ∙ ok.id-parsed in
      let e : drop (6 + payload_at c) ys ≡ pay
      = sym (drop-drop (payload_at c) 6 ys) ∙ (ap (λ (k : ℕ). drop k c) (payload-is ∙ sym end_is) ∙ end_at) in
      let l : length pay ≤ length c - payload_at c = omega (arith, contents-length, payload-is) in
      simp (headed_back, p, accepted-back.is) (ap (take (length c - payload_at c)) e ∙ take_all (length c - payload_at c) pay l)

  -- nothing that the unit does not name is set: no scrambling, no extension, no stuffing
  pub rest-given : (read_fixed scrambling_bit 2 c ≡ answer 0 (0 ∷ [])) × (read_fixed data_length_bit 8 c ≡ answer 0 (data_of u ∷ [])) × (read_pes_extension c ≡ answer 9 [])
  unfolding data_length
  rest-given =
      let a = accepted-back in
      (a.is _ ∙ given scrambling-back, a.is _ ∙ given data_back, sym (field_off c 15 _ a extension-flag))
