-- The head of a PES packet (clause 2.4.3.6, the PES packet table): packet_start_code_prefix 24, stream_id 8, PES_packet_length 16.
use Rattle.std.specs.Prelude.{List, [], ◌∷◌, ℕ, ◌-◌, length, eqb, ltb}
use Rattle.bits.specs.Answer.{Answer, answer, pick, truth, Check, ◌gives◌, unless, other}
use Rattle.bits.specs.Field.{field}
use Rattle.bits.specs.Numbers.{done, short_header, bad_start_code}
use Rattle.bits.specs.Refused.{extent_values}
use Rattle.pes.specs.Stream.{read_id, parsed_id}
use Rattle.pes.specs.declared.PesLength.{PesLength}
use Rattle.pes.specs.declared.PesContents.{PesContents}

-- ---- the values of what is read

-- unbounded is kind 0, bounded kind 1 with the length
abbrev pub length_values : PesLength → List ℕ
length_values PesLength.Unbounded = 0 ∷ []
length_values (PesLength.Bounded n) = 1 ∷ n ∷ []

-- bare payload is kind 0, parsed contents kind 1, each with place and length
abbrev pub contents_values : PesContents → List ℕ
contents_values (PesContents.Payload e) = 0 ∷ extent_values e
contents_values (PesContents.Parsed e) = 1 ∷ extent_values e

-- ---- what is read

-- bytes that begin with no head: 3 below 6 bytes, 4 where they do not begin with the start code prefix
unfoldable pub not_head : List ℕ → List Check
not_head xs =
    ltb (length xs) 6 gives short_header
    ∷ other (field xs 0 24) 1 gives bad_start_code
    ∷ []

abbrev pub read_head : List ℕ → Answer
read_head xs = unless (not_head xs) (answer done [])

unfoldable pub id_of : List ℕ → ℕ
id_of xs = field xs 24 8

abbrev pub read_stream_id : List ℕ → Answer
read_stream_id xs = unless (not_head xs) (read_id (id_of xs))

-- PES_packet_length: 0 is unbounded
unfoldable pub packet_length : List ℕ → ℕ
packet_length xs = field xs 32 16

abbrev pub read_length : List ℕ → Answer
read_length xs = unless (not_head xs) (pick (eqb (packet_length xs) 0) (answer done (0 ∷ [])) (answer done (1 ∷ packet_length xs ∷ [])))

-- what follows the six bytes: its kind, its place and its length
abbrev pub read_contents_part : List ℕ → Answer
read_contents_part xs = unless (not_head xs) (answer done (truth (parsed_id (id_of xs)) ∷ 6 ∷ (length xs - 6) ∷ []))

-- the same as a part: place and length alone
abbrev pub contents_part : List ℕ → Answer
contents_part xs = unless (not_head xs) (answer done (6 ∷ (length xs - 6) ∷ []))
