-- Everything that is read of a packet, of the head of a PES packet and of parsed contents, each as one answer: refused as the bytes are,
-- else with the numbers of the single entries (crate host), one after another.
use Rattle.std.specs.Prelude.{List, [], ◌∷◌, ◌++◌, ℕ, replicate}
use Rattle.bits.specs.Answer.{Answer, answer, and_then}
use Rattle.bits.specs.Field.{field}
use Rattle.bits.specs.Numbers.{done}
use Rattle.packet.specs.Packet.{tried, read_flag, error_bit, start_bit, priority_bit, read_pid, read_counter, read_adaptation}
use Rattle.packet.specs.Packet.{read_payload}
use Rattle.pes.specs.Head.{read_head, read_stream_id, read_length}
use Rattle.pes.specs.Head.{read_contents_part}
use Rattle.contents.specs.Contents.{scrambling_bit, pes_priority_bit, alignment_bit, copyright_bit, original_bit, flags_bit, data_length_bit}
use Rattle.contents.specs.Contents.{read_contents, read_pts_dts, read_escr, read_es_rate, read_copy_info, read_crc, read_pes_extension, read_parsed_payload}
use Rattle.contents.specs.Trick.{read_trick, read_raw_trick}
use Rattle.host.specs.Reports.{word, outs}
use Rattle.host.specs.Packets.{read_scrambling, read_control}

-- the k numbers that an entry leaves where zeros are lent: 0 for those that its answer has none for, and where it is refused
abbrev pub numbers : ℕ → Answer → List ℕ
numbers k a = outs a (replicate k 0)

-- the word of an entry, then its k numbers
abbrev pub row : ℕ → Answer → List ℕ
row k a = word a ∷ numbers k a

-- a packet (clause 2.4.3.2, the transport packet table): error, start, priority, PID, counter; scrambled and scheme; by the control bits
-- whether there are an adaptation field and a payload; then rows of where each lies
unfoldable pub packet_fields : List ℕ → Answer
packet_fields xs =
    and_then (tried xs)
    (answer done
    (numbers 1 (read_flag error_bit xs)
    ++ (numbers 1 (read_flag start_bit xs)
    ++ (numbers 1 (read_flag priority_bit xs)
    ++ (numbers 1 (read_pid xs)
    ++ (numbers 1 (read_counter xs)
    ++ (numbers 2 (read_scrambling xs)
    ++ (numbers 2 (read_control xs)
    ++ (row 2 (read_adaptation xs)
    ++ row 2 (read_payload xs))))))))))

-- a head (clause 2.4.3.6, the PES packet table): the stream id's kind and what is kept beside it; the length's kind and the length; the
-- kind, place and length of what follows
unfoldable pub header_fields : List ℕ → Answer
header_fields xs =
    and_then (read_head xs)
    (answer done
    (numbers 2 (read_stream_id xs)
    ++ (numbers 2 (read_length xs)
    ++ numbers 3 (read_contents_part xs))))

-- the fields that parsed contents always have (the same table): PES_scrambling_control, PES_priority, data_alignment_indicator, copyright,
-- original_or_copy, the eight flags as one byte, PES_header_data_length
abbrev pub fixed_fields : List ℕ → List ℕ
fixed_fields c =
    field c scrambling_bit 2
    ∷ field c pes_priority_bit 1
    ∷ field c alignment_bit 1
    ∷ field c copyright_bit 1
    ∷ field c original_bit 1
    ∷ field c flags_bit 8
    ∷ field c data_length_bit 8
    ∷ []

-- parsed contents: those, then a row for each field that a flag stands for, and place and length of the payload
unfoldable pub contents_fields : List ℕ → Answer
contents_fields c =
    and_then (read_contents c)
    (answer done
    (fixed_fields c
    ++ (row 5 (read_pts_dts c)
    ++ (row 2 (read_escr c)
    ++ (row 1 (read_es_rate c)
    ++ (row 4 (read_trick c)
    ++ (row 1 (read_raw_trick c)
    ++ (row 1 (read_copy_info c)
    ++ (row 1 (read_crc c)
    ++ (row 2 (read_pes_extension c)
    ++ numbers 2 (read_parsed_payload c)))))))))))
