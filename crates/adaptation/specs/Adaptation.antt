-- The adaptation field, without its length byte (clause 2.4.3.4, the adaptation field table): a byte of flags, and then, each there
-- where its flag is set, one after another:
--   PCR 6 bytes, OPCR 6 bytes, splice_countdown 1 byte, private data (length byte, then data), extension (length byte, then data).
use Rattle.std.specs.Prelude.{not, List, [], ◌∷◌, ℕ, ◌+◌, ◌*◌, length, get_or, drop, eqb, ltb}
use Rattle.bits.specs.Answer.{Answer, answer, pick, truth, Check, ◌gives◌, unless}
use Rattle.bits.specs.Field.{bit, flag}
use Rattle.bits.specs.Numbers.{done, wrong_length, field_not_present, not_enough_data}
use Rattle.control.specs.Clock.{clock_base, clock_extension}

-- an adaptation field of no bytes
unfoldable pub no_flags : List ℕ → List Check
no_flags xs = eqb (length xs) 0 gives wrong_length ∷ []

-- a field that its flag, bit i, says is there, and that ends before byte e; no bytes at all are 1 in the adaptation field, 11 in its extension
unfoldable pub not_field : ℕ → ℕ → ℕ → List ℕ → List Check
not_field none i e xs =
    eqb (length xs) 0 gives none
    ∷ not (flag xs i) gives field_not_present
    ∷ ltb (length xs) e gives not_enough_data ∷ []

-- discontinuity_indicator, random_access_indicator, elementary_stream_priority_indicator: the first three bits
unfoldable pub read_flag : ℕ → List ℕ → Answer
read_flag i xs = unless (no_flags xs) (answer done (truth (flag xs i) ∷ []))

-- the next five: PCR_flag, OPCR_flag, splicing_point_flag, transport_private_data_flag, adaptation_field_extension_flag
abbrev pub pcr_bit : ℕ
pcr_bit = 3

abbrev pub opcr_bit : ℕ
opcr_bit = 4

abbrev pub splice_bit : ℕ
splice_bit = 5

abbrev pub private_bit : ℕ
private_bit = 6

abbrev pub extension_bit : ℕ
extension_bit = 7

-- where each field starts: after those before it that are there
abbrev pub pcr_at : ℕ
pcr_at = 1

unfoldable pub opcr_at : List ℕ → ℕ
opcr_at xs = pcr_at + 6 * bit xs pcr_bit

unfoldable pub splice_at : List ℕ → ℕ
splice_at xs = opcr_at xs + 6 * bit xs opcr_bit

unfoldable pub private_at : List ℕ → ℕ
private_at xs = splice_at xs + bit xs splice_bit

-- a length byte and as many bytes: the end of what stands at a place
unfoldable pub measured_end : List ℕ → ℕ → ℕ
measured_end xs k = k + 1 + get_or xs k 0

unfoldable pub extension_at : List ℕ → ℕ
extension_at xs = pick (flag xs private_bit) (measured_end xs (private_at xs)) (private_at xs)

-- a clock reference at a place
abbrev pub clock_at : List ℕ → ℕ → Answer
clock_at xs k = answer done (clock_base (drop k xs) ∷ clock_extension (drop k xs) ∷ [])

abbrev pub read_pcr : List ℕ → Answer
read_pcr xs = unless (not_field wrong_length pcr_bit (pcr_at + 6) xs) (clock_at xs pcr_at)

abbrev pub read_opcr : List ℕ → Answer
read_opcr xs = unless (not_field wrong_length opcr_bit (opcr_at xs + 6) xs) (clock_at xs (opcr_at xs))

abbrev pub read_splice_countdown : List ℕ → Answer
read_splice_countdown xs = unless (not_field wrong_length splice_bit (splice_at xs + 1) xs) (answer done (get_or xs (splice_at xs) 0 ∷ []))

-- the bytes after a length byte, as place and length
abbrev pub measured : List ℕ → ℕ → Answer
measured xs k = answer done ((k + 1) ∷ get_or xs k 0 ∷ [])

abbrev pub read_private_data : List ℕ → Answer
read_private_data xs = unless (not_field wrong_length private_bit (measured_end xs (private_at xs)) xs) (measured xs (private_at xs))

-- an extension of no bytes
unfoldable pub empty_extension : List ℕ → List Check
empty_extension xs = eqb (get_or xs (extension_at xs) 0) 0 gives not_enough_data ∷ []

abbrev pub read_extension : List ℕ → Answer
read_extension xs =
    unless (not_field wrong_length extension_bit (measured_end xs (extension_at xs)) xs)
    (unless (empty_extension xs) (measured xs (extension_at xs)))
