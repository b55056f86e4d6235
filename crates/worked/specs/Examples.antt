-- The worked examples that the request marks to be proved, as one list.
use Rattle.std.specs.Prelude.{None, ◌≡◌, Bool, true, false, List, [], ◌∷◌, ℕ, length}
use Rattle.bits.specs.Answer.{Answer, answer}
use Rattle.bits.specs.Numbers.{done, bad_check_bits, header_past_buffer, fields_past_header, pts_dts_flags_invalid, marker_bit_not_set, too_long}
use Rattle.timestamp.specs.Stamp.{pts_prefix, read_prefixed, likely_wrapped}
use Rattle.contents.specs.Contents.{read_contents, read_pts_dts}
use Rattle.writer.specs.declared.Route.{Route}
use Rattle.writer.specs.declared.Times.{Times}
use Rattle.writer.specs.declared.Unit.{Unit}
use Rattle.writer.specs.Writer.{write_of}

pub data Example : Type 0 where
  -- these bytes, read as a PTS, give this answer
  stamp : List ℕ → Answer → Example
  -- these bytes after a head's six are accepted or refused so
  header : List ℕ → Answer → Example
  -- and their timestamps are answered so
  times : List ℕ → Answer → Example
  -- whether the first number has likely wrapped since the second
  wraps : ℕ → ℕ → Bool → Example
  -- so many bytes of payload, written as this unit into so many bytes, are answered so
  writes : Unit → ℕ → ℕ → Answer → Example

abbrev pub way : Route
way = record { pid = 256; counter = 0 }

-- a video unit with no field but its times
abbrev pub video : Bool → Times → Unit
video b t = record {
  id = 0xE0;
  bounded = b;
  priority = false;
  alignment = false;
  copyright = false;
  original = false;
  times = t;
  escr = None;
  rate = None;
  trick = None;
  copy = None;
  crc = None;
}

abbrev pub Holds : Example → Type 0
Holds (stamp xs a) = read_prefixed pts_prefix xs ≡ a
Holds (header c a) = read_contents c ≡ a
Holds (times c a) = read_pts_dts c ≡ a
Holds (wraps v since b) = likely_wrapped v since ≡ b
Holds (writes u n room a) = (payload out : List ℕ) → length payload ≡ n → length out ≡ room → write_of way u payload out ≡ a

abbrev pub examples : List Example
examples =
    stamp (0x21 ∷ 0x00 ∷ 0x05 ∷ 0xBF ∷ 0x21 ∷ []) (answer done (90_000 ∷ []))
    ∷ stamp (0x2F ∷ 0xFF ∷ 0xFF ∷ 0xFF ∷ 0xFF ∷ []) (answer done (8_589_934_591 ∷ []))
    ∷ stamp (0x21 ∷ 0x00 ∷ 0x00 ∷ 0x00 ∷ 0x00 ∷ []) (answer marker_bit_not_set (23 ∷ []))
    ∷ header (0x80 ∷ 0x40 ∷ 0x00 ∷ []) (answer done [])
    ∷ times (0x80 ∷ 0x40 ∷ 0x00 ∷ []) (answer pts_dts_flags_invalid [])
    ∷ header (0x80 ∷ 0xC0 ∷ 0x09 ∷ 0 ∷ 0 ∷ 0 ∷ 0 ∷ 0 ∷ 0 ∷ 0 ∷ 0 ∷ 0 ∷ []) (answer fields_past_header [])
    ∷ header (0x80 ∷ 0x80 ∷ 0x05 ∷ 0 ∷ 0 ∷ 0 ∷ 0 ∷ []) (answer header_past_buffer [])
    ∷ header (0xC0 ∷ 0x00 ∷ 0x00 ∷ []) (answer bad_check_bits [])
    ∷ wraps 0 4_294_967_296 true
    ∷ wraps 0 4_294_967_295 false
    ∷ writes (video false Times.Untimed) 175 188 (answer done (1 ∷ []))
    ∷ writes (video false Times.Untimed) 176 376 (answer done (2 ∷ []))
    ∷ writes (video true (Times.Pts 90_000)) 65_527 70_000 (answer done (357 ∷ []))
    ∷ writes (video true (Times.Pts 90_000)) 65_528 70_000 (answer too_long [])
    ∷ []
