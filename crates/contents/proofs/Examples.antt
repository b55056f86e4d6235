-- A timestamp of the header is read whatever its prefix is: computed.
-- Assumes nothing.
use mathlib.Core.Path.{◌≡◌, refl}
use mathlib.Core.List.{[], ◌∷◌}
use Rattle.bits.specs.Answer.{answer}
use Rattle.bits.specs.Field.{bit, field}
use Rattle.bits.specs.Numbers.{done}
use Rattle.timestamp.specs.Stamp.{stamp_value, read_stamp}
use Rattle.contents.specs.Contents.{data_length, times_size, escr_at, es_rate_at, trick_at, copy_info_at, crc_at, fields_end, payload_at, not_contents}
use Rattle.contents.specs.Contents.{read_pts_dts}

-- the PTS of a pair has the prefix 0011, under which no PTS stands alone: 90,000 and 1 are read
pub pair_read : read_pts_dts (0x80 ∷ 0xC0 ∷ 0x0A ∷ 0x31 ∷ 0x00 ∷ 0x05 ∷ 0xBF ∷ 0x21 ∷ 0x11 ∷ 0x00 ∷ 0x01 ∷ 0x00 ∷ 0x03 ∷ [])
    ≡ answer done (2 ∷ done ∷ 90_000 ∷ done ∷ 1 ∷ [])
unfolding read_pts_dts not_contents read_stamp stamp_value fields_end crc_at copy_info_at trick_at es_rate_at escr_at times_size payload_at data_length field bit
pair_read = refl
