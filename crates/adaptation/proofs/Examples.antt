-- DTS_next_AU is read whatever the splice type is, which stands where a DTS has its prefix: computed.
-- Assumes nothing.
use mathlib.Core.Path.{◌≡◌, refl}
use mathlib.Core.List.{[], ◌∷◌}
use Rattle.bits.specs.Answer.{answer}
use Rattle.bits.specs.Field.{bit, field}
use Rattle.bits.specs.Numbers.{done}
use Rattle.timestamp.specs.Stamp.{stamp_value, read_stamp}
use Rattle.adaptation.specs.Adaptation.{not_field}
use Rattle.adaptation.specs.Extension.{rate_at, seamless_at, read_splice}

-- type 9, and the time 1
pub splice_read : read_splice (0x20 ∷ 0x91 ∷ 0x00 ∷ 0x01 ∷ 0x00 ∷ 0x03 ∷ []) ≡ answer done (9 ∷ 1 ∷ [])
unfolding not_field seamless_at rate_at read_stamp stamp_value field bit
splice_read = refl
