-- The payload of a PES packet (clause 2.4.3.6, the PES packet table): what follows the header data, or all bytes after the six where the
-- stream_id carries bare payload.
use Rattle.std.specs.Prelude.{List, [], ◌∷◌, ℕ, ◌+◌, eqb, get_or, drop}
use Rattle.bits.specs.Answer.{Answer, answer, pick, unless, part_of}
use Rattle.bits.specs.Numbers.{done}
use Rattle.pes.specs.Stream.{parsed_id}
use Rattle.pes.specs.Head.{id_of, not_head, contents_part}
use Rattle.contents.specs.Contents.{read_parsed_payload}

-- a part of the bytes from k on, as a part of the whole; a refusal stays
abbrev pub later : ℕ → Answer → Answer
later k a = pick (eqb a.number done) (answer done ((k + get_or a.values 0 0) ∷ get_or a.values 1 0 ∷ [])) a

-- THE PAYLOAD OF A HEADER, as place and length, refused in the order 3 to 8: 3 and 4 for the head; then, after an id that carries parsed
-- contents, 5 to 8 for these or what follows their header data, and after an id that carries bare payload all bytes after the six
unfoldable pub header_payload : List ℕ → Answer
header_payload xs = unless (not_head xs) (pick (parsed_id (id_of xs)) (later 6 (read_parsed_payload (drop 6 xs))) (contents_part xs))

-- its bytes; none where head or contents are refused
unfoldable pub payload_bytes : List ℕ → List ℕ
payload_bytes xs = part_of (header_payload xs) xs
