-- The stream id (clause 2.4.3.7, the table of stream_id assignments), and which ids carry parsed contents (clause 2.4.3.6, the first
-- condition of the PES packet table).
use Rattle.std.specs.Prelude.{Bool, true, false, not, List, [], ◌∷◌, ℕ, ◌%◌, ◌^◌, eqb, leb, get_or}
use Rattle.bits.specs.Answer.{Answer, answer, pick}
use Rattle.bits.specs.Numbers.{done}
use Rattle.pes.specs.declared.StreamId.{StreamId}
use Rattle.pes.specs.declared.StreamId.TheVariants.{ProgramStreamMap, PrivateStream1, PaddingStream, PrivateStream2, Audio, Video}
use Rattle.pes.specs.declared.StreamId.TheVariants.{EcmStream, EmmStream, DsmCc, Iso13522Stream}
use Rattle.pes.specs.declared.StreamId.TheVariants.{H2221TypeA, H2221TypeB, H2221TypeC, H2221TypeD, H2221TypeE, AncillaryStream}
use Rattle.pes.specs.declared.StreamId.TheVariants.{SlPacketizedStream, FlexMuxStream, MetadataStream, ExtendedStreamId}
use Rattle.pes.specs.declared.StreamId.TheVariants.{ReservedDataStream, ProgramStreamDirectory, Unknown}

-- what an id stands for, as numbers: a kind, which is the id itself or the first of its range (0 for none), and what is kept beside it
abbrev pub stream_values : StreamId → List ℕ
stream_values ProgramStreamMap = 0xBC ∷ 0 ∷ []
stream_values PrivateStream1 = 0xBD ∷ 0 ∷ []
stream_values PaddingStream = 0xBE ∷ 0 ∷ []
stream_values PrivateStream2 = 0xBF ∷ 0 ∷ []
stream_values (Audio n) = 0xC0 ∷ n ∷ []
stream_values (Video n) = 0xE0 ∷ n ∷ []
stream_values EcmStream = 0xF0 ∷ 0 ∷ []
stream_values EmmStream = 0xF1 ∷ 0 ∷ []
stream_values DsmCc = 0xF2 ∷ 0 ∷ []
stream_values Iso13522Stream = 0xF3 ∷ 0 ∷ []
stream_values H2221TypeA = 0xF4 ∷ 0 ∷ []
stream_values H2221TypeB = 0xF5 ∷ 0 ∷ []
stream_values H2221TypeC = 0xF6 ∷ 0 ∷ []
stream_values H2221TypeD = 0xF7 ∷ 0 ∷ []
stream_values H2221TypeE = 0xF8 ∷ 0 ∷ []
stream_values AncillaryStream = 0xF9 ∷ 0 ∷ []
stream_values SlPacketizedStream = 0xFA ∷ 0 ∷ []
stream_values FlexMuxStream = 0xFB ∷ 0 ∷ []
stream_values MetadataStream = 0xFC ∷ 0 ∷ []
stream_values ExtendedStreamId = 0xFD ∷ 0 ∷ []
stream_values ReservedDataStream = 0xFE ∷ 0 ∷ []
stream_values ProgramStreamDirectory = 0xFF ∷ 0 ∷ []
stream_values (Unknown n) = 0 ∷ n ∷ []

-- the answer that these numbers are
abbrev pub given_id : StreamId → Answer
given_id s = answer done (stream_values s)

-- the kind alone
abbrev pub kind_of : StreamId → ℕ
kind_of s = get_or (stream_values s) 0 0

-- the numbers of an id, in the table's order: an id below BC stands in no row; C0 to DF are audio and E0 to EF video, each with its low
-- five bits; every other id has a row of its own
unfoldable pub id_values : ℕ → List ℕ
id_values n =
    pick (leb n 0xBB) (0 ∷ n ∷ [])
    (pick (leb n 0xBF) (n ∷ 0 ∷ [])
    (pick (leb n 0xDF) (0xC0 ∷ n % 2 ^ 5 ∷ [])
    (pick (leb n 0xEF) (0xE0 ∷ n % 2 ^ 5 ∷ [])
    (n ∷ 0 ∷ []))))

abbrev pub read_id : ℕ → Answer
read_id n = answer done (id_values n)

abbrev pub elem : ℕ → List ℕ → Bool
elem n [] = false
elem n (x ∷ xs) = pick (eqb n x) true (elem n xs)

-- the eight ids that carry bare payload
abbrev pub bare_ids : List ℕ
bare_ids = 0xBC ∷ 0xBE ∷ 0xBF ∷ 0xF0 ∷ 0xF1 ∷ 0xF2 ∷ 0xF8 ∷ 0xFF ∷ []

-- all others carry parsed contents, and so does kind 0
unfoldable pub parsed_id : ℕ → Bool
parsed_id n = not (elem n bare_ids)
