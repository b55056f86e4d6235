-- Where the flagged fields stand, by the flags' byte alone: the rule of a table of field ends, and what its entries are.
-- Assumes nothing.
use mathlib.Core.Path.{◌≡◌, refl, sym, ap}
use mathlib.Core.Bool.{Bool, true, false}
use mathlib.Core.List.{List}
use Prim.Native.Nat.{ℕ, ◌+◌, ◌*◌, ◌/◌, ◌≤◌, ◌<◌}
use native.Mathlib.Omega.{arith}
use lib.ListN.{get_or}
use lib.Dec.{T, eqb, eqb→eq}
use Rattle.bits.specs.Answer.{pick}
use Rattle.bits.specs.Field.{bit, flag}
use Rattle.bits.proofs.Fields.{bit_below}
use Rattle.bits.proofs.Ranges.{from, at}
use Rattle.contents.specs.Contents.{flag_byte, FieldEnds, times_size, escr_at, es_rate_at, trick_at, copy_info_at, crc_at, fields_end, pts_bit, dts_bit, escr_bit, es_rate_bit}
use Rattle.contents.specs.Contents.{trick_bit, copy_info_bit, crc_bit}

-- ---- how far they go

pick_small : (b : Bool) (x y m : ℕ) → x ≤ m → y ≤ m → pick b x y ≤ m
pick_small true x y m p q = p
pick_small false x y m p q = q

module _ (c : List ℕ) where
  times-small : times_size c ≤ 10
  unfolding times_size
  times-small = pick_small (flag c pts_bit) (5 + 5 * bit c dts_bit) 0 10 (omega (arith, bit_below c dts_bit)) (omega arith)

  pub escr-small : escr_at c ≤ 13
  unfolding escr_at
  escr-small = omega (arith, times-small)

  pub rate-small : es_rate_at c ≤ 19
  unfolding es_rate_at
  rate-small = omega (arith, escr-small, bit_below c escr_bit)

  pub trick-small : trick_at c ≤ 22
  unfolding trick_at
  trick-small = omega (arith, rate-small, bit_below c es_rate_bit)

  pub copy-small : copy_info_at c ≤ 23
  unfolding copy_info_at
  copy-small = omega (arith, trick-small, bit_below c trick_bit)

  pub crc-small : crc_at c ≤ 24
  unfolding crc_at
  crc-small = omega (arith, copy-small, bit_below c copy_info_bit)

  pub end_least : fields_end c ≤ 26
  unfolding fields_end
  end_least = omega (arith, crc-small, bit_below c crc_bit)

-- ---- the rule of a table

-- the test: at this flag byte, the entry is where the fields that it announces end
abbrev rule : List ℕ → ℕ → Bool
rule table f = eqb (get_or table f 0) (fields_end (flag_byte f))

-- a table of field ends, where antt has computed the test over all flag bytes
pub table_of_ends : (table : List ℕ) → T (from (rule table) 0 256) → FieldEnds table
unfolding FieldEnds
table_of_ends table t f h = eqb→eq (get_or table f 0) (fields_end (flag_byte f)) (at (rule table) 0 256 t f (omega arith))

-- so is each of its entries
pub entry-is : (table : List ℕ) (f : ℕ) → FieldEnds table → f < 256 → get_or table f 0 ≡ fields_end (flag_byte f)
unfolding FieldEnds
entry-is table f r h = r f h

-- ---- entries whose later flags are cleared

-- with the flags below d cleared, the fields end at this place
abbrev ends : (List ℕ → ℕ) → ℕ → ℕ → Bool
ends place d f = eqb (fields_end (flag_byte (f / d * d))) (place (flag_byte f))

cleared : (place : List ℕ → ℕ) (d : ℕ) → T (from (ends place d) 0 256) → (f : ℕ) → f < 256 → fields_end (flag_byte (f / d * d)) ≡ place (flag_byte f)
cleared place d t f h = eqb→eq (fields_end (flag_byte (f / d * d))) (place (flag_byte f)) (at (ends place d) 0 256 t f (omega arith))

module _ (c : List ℕ) (h : get_or c 1 0 < 256) where
  pub times-end : fields_end (flag_byte (get_or c 1 0 / 64 * 64)) ≡ escr_at c
  unfolding fields_end crc_at copy_info_at trick_at es_rate_at escr_at times_size bit
  times-end = cleared escr_at 64 tt (get_or c 1 0) h

  pub escr-end : fields_end (flag_byte (get_or c 1 0 / 32 * 32)) ≡ es_rate_at c
  unfolding fields_end crc_at copy_info_at trick_at es_rate_at escr_at times_size bit
  escr-end = cleared es_rate_at 32 tt (get_or c 1 0) h

  pub rate-end : fields_end (flag_byte (get_or c 1 0 / 16 * 16)) ≡ trick_at c
  unfolding fields_end crc_at copy_info_at trick_at es_rate_at escr_at times_size bit
  rate-end = cleared trick_at 16 tt (get_or c 1 0) h

  pub trick-end : fields_end (flag_byte (get_or c 1 0 / 8 * 8)) ≡ copy_info_at c
  unfolding fields_end crc_at copy_info_at trick_at es_rate_at escr_at times_size bit
  trick-end = cleared copy_info_at 8 tt (get_or c 1 0) h

  pub copy-end : fields_end (flag_byte (get_or c 1 0 / 4 * 4)) ≡ crc_at c
  unfolding fields_end crc_at copy_info_at trick_at es_rate_at escr_at times_size bit
  copy-end = cleared crc_at 4 tt (get_or c 1 0) h

module _ (c : List ℕ) where
  pub crc-end : fields_end (flag_byte (get_or c 1 0)) ≡ fields_end c
  unfolding fields_end crc_at copy_info_at trick_at es_rate_at escr_at times_size bit
  crc-end = refl

  -- the entries of a PTS alone, and of a PTS and a DTS
  pub pts-end : get_or c 1 0 ≡ 0x80 → 8 ≡ fields_end c
  unfolding fields_end crc_at copy_info_at trick_at es_rate_at escr_at times_size bit
  pts-end b = ap (λ (n : ℕ). fields_end (flag_byte n)) (sym b)

  pub dts-end : get_or c 1 0 ≡ 0xC0 → 13 ≡ fields_end c
  unfolding fields_end crc_at copy_info_at trick_at es_rate_at escr_at times_size bit
  dts-end b = ap (λ (n : ℕ). fields_end (flag_byte n)) (sym b)
