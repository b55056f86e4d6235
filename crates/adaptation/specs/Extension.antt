-- The adaptation field extension, without its length byte (clause 2.4.3.4, the same table): a byte of flags, and then, each there
-- where its flag is set, one after another:
--   ltw_valid_flag 1 and ltw_offset 15; 2 reserved and piecewise_rate 22; Splice_type 4 and DTS_next_AU 33 with three markers.
use Rattle.std.specs.Prelude.{List, [], ◌∷◌, ℕ, ◌+◌, ◌*◌, drop, eqb, Option, Some, None}
use Rattle.bits.specs.Answer.{Answer, answer, pick, unless}
use Rattle.bits.specs.Field.{bit, field, flag}
use Rattle.bits.specs.Numbers.{done, not_enough_data}
use Rattle.timestamp.specs.Stamp.{read_stamp}
use Rattle.adaptation.specs.Adaptation.{not_field}
use Rattle.adaptation.specs.declared.extension.SeamlessSplice.{SeamlessSplice}

-- ---- the values of the answers

-- a time window that is flagged but not valid is kind 0; a valid one kind 1, with its offset
abbrev pub ltw_values : Option ℕ → List ℕ
ltw_values None = 0 ∷ []
ltw_values (Some n) = 1 ∷ n ∷ []

-- a splice: its type and its time
abbrev pub splice_values : SeamlessSplice → List ℕ
splice_values s = s.splice_type ∷ s.dts_next_au.val ∷ []

-- ---- what is read

-- ltw_flag, piecewise_rate_flag, seamless_splice_flag
abbrev pub ltw_bit : ℕ
ltw_bit = 0

abbrev pub rate_bit : ℕ
rate_bit = 1

abbrev pub seamless_bit : ℕ
seamless_bit = 2

-- where each field starts: after those before it that are there
abbrev pub ltw_at : ℕ
ltw_at = 1

unfoldable pub rate_at : List ℕ → ℕ
rate_at xs = ltw_at + 2 * bit xs ltw_bit

unfoldable pub seamless_at : List ℕ → ℕ
seamless_at xs = rate_at xs + 3 * bit xs rate_bit

abbrev pub read_ltw : List ℕ → Answer
read_ltw xs =
    unless (not_field not_enough_data ltw_bit (ltw_at + 2) xs)
    (pick (flag xs (8 * ltw_at)) (answer done (1 ∷ field xs (8 * ltw_at + 1) 15 ∷ [])) (answer done (0 ∷ [])))

abbrev pub read_rate : List ℕ → Answer
read_rate xs = unless (not_field not_enough_data rate_bit (rate_at xs + 3) xs) (answer done (field xs (8 * rate_at xs + 2) 22 ∷ []))

-- a splice's type before its time, where the time can be read, else what the time's reading answers
abbrev pub typed : ℕ → Answer → Answer
typed t a = pick (eqb a.number done) (answer done (t ∷ a.values)) a

abbrev pub read_splice : List ℕ → Answer
read_splice xs =
    unless (not_field not_enough_data seamless_bit (seamless_at xs + 5) xs)
    (typed (field xs (8 * seamless_at xs) 4) (read_stamp (drop (seamless_at xs) xs)))
