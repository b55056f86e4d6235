-- The values of what each reader accepts.
use Rattle.std.specs.Prelude.{List, [], ◌∷◌, ◌++◌, ℕ, eqb}
use Rattle.bits.specs.Answer.{pick, truth}
use Rattle.bits.specs.Refused.{given}
use Rattle.timestamp.specs.Stamp.{timestamp_values}
use Rattle.contents.specs.Contents.{inner}
use Rattle.contents.specs.declared.DataAlignment.{DataAlignment}
use Rattle.contents.specs.declared.CopyrightStatus.{CopyrightStatus}
use Rattle.contents.specs.declared.OriginalOrCopy.{OriginalOrCopy}
use Rattle.contents.specs.declared.PtsDts.{PtsDts}
use Rattle.contents.specs.declared.EsRate.{EsRate}
use Rattle.contents.specs.declared.FrequencyTruncationCoefficientSelection.{FrequencyTruncationCoefficientSelection}
use Rattle.contents.specs.declared.DsmTrickMode.{DsmTrickMode}
use Rattle.contents.specs.declared.fields.Places.{Places}

-- aligned is 1
abbrev pub alignment : DataAlignment → ℕ
alignment DataAlignment.Aligned = 1
alignment DataAlignment.NotAligned = 0

abbrev pub alignment_values : DataAlignment → List ℕ
alignment_values a = alignment a ∷ []

-- the original's sense: a bit of 1 is undefined, a bit of 0 protected
abbrev pub status_bit : CopyrightStatus → ℕ
status_bit CopyrightStatus.Undefined = 1
status_bit CopyrightStatus.Protected = 0

abbrev pub status_values : CopyrightStatus → List ℕ
status_values k = status_bit k ∷ []

-- the standard's sense (clause 2.4.3.7, copyright): a bit of 1 is protected, a bit of 0 undefined
abbrev pub standard_copyright : ℕ → CopyrightStatus
standard_copyright b = pick (eqb b 0) CopyrightStatus.Undefined CopyrightStatus.Protected

-- original is 1
abbrev pub originality : OriginalOrCopy → ℕ
originality OriginalOrCopy.Original = 1
originality OriginalOrCopy.Copy = 0

abbrev pub originality_values : OriginalOrCopy → List ℕ
originality_values o = originality o ∷ []

-- PTS alone is kind 1, the pair kind 2; with what the reading of each answers
abbrev pub pts_dts_values : PtsDts → List ℕ
pts_dts_values (PtsDts.PtsOnly p) = 1 ∷ inner (given timestamp_values p)
pts_dts_values (PtsDts.Both p d) = 2 ∷ inner (given timestamp_values p) ++ inner (given timestamp_values d)

abbrev pub rate_values : EsRate → List ℕ
rate_values e = e.0 ∷ []

-- the two bits of frequency_truncation
abbrev pub truncation : FrequencyTruncationCoefficientSelection → ℕ
truncation FrequencyTruncationCoefficientSelection.DCNonZero = 0
truncation FrequencyTruncationCoefficientSelection.FirstThreeNonZero = 1
truncation FrequencyTruncationCoefficientSelection.FirstSixNonZero = 2
truncation FrequencyTruncationCoefficientSelection.AllMaybeNonZero = 3

-- a kind, and what is given with it
abbrev pub trick_values : DsmTrickMode → List ℕ
trick_values (DsmTrickMode.FastForward f i t) = 0 ∷ f ∷ truth i ∷ truncation t ∷ []
trick_values (DsmTrickMode.SlowMotion n) = 1 ∷ n ∷ []
trick_values (DsmTrickMode.FreezeFrame f n) = 2 ∷ f ∷ n ∷ []
trick_values (DsmTrickMode.FastReverse f i t) = 3 ∷ f ∷ truth i ∷ truncation t ∷ []
trick_values (DsmTrickMode.SlowReverse n) = 4 ∷ n ∷ []
trick_values (DsmTrickMode.Reserved n) = 5 ∷ n ∷ []

-- all of them, in their order
abbrev pub places_values : Places → List ℕ
places_values p =
    p.escr ∷ p.es_rate ∷ p.dsm_trick_mode ∷ p.additional_copy_info ∷ p.previous_pes_packet_crc ∷ p.pes_extension ∷ p.payload ∷ []
