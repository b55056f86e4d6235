-- Where two refusals are due, which comes first: computed.
-- Assumes nothing.
use mathlib.Core.Path.{◌≡◌, refl}
use mathlib.Core.List.{[], ◌∷◌}
use Rattle.bits.specs.Answer.{answer}
use Rattle.bits.specs.Field.{bit, field}
use Rattle.bits.specs.Numbers.{incorrect_prefix_bits}
use Rattle.timestamp.specs.Stamp.{stamp_value, read_stamp, read_prefixed, pts_prefix}

-- no prefix of a PTS, and no marker bit set: 13, not 12
pub prefix-first : read_prefixed pts_prefix (0 ∷ 0 ∷ 0 ∷ 0 ∷ 0 ∷ []) ≡ answer incorrect_prefix_bits (2 ∷ 0 ∷ [])
unfolding read_prefixed read_stamp stamp_value field bit
prefix-first = refl
