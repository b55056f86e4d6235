-- That the premises of the theorems can be met, and that the premise of `least` is needed.
-- Assumes nothing.
use Rattle.std.specs.Prelude.{None}
use mathlib.Core.Path.{◌≡◌, refl}
use mathlib.Core.Bool.{Bool, true, false}
use mathlib.Core.List.{List, [], ◌∷◌, ◌++◌}
use Prim.Native.Nat.{ℕ, ◌+◌, ◌*◌, ◌≤◌}
use native.Mathlib.Omega.{arith}
use lib.ListN.{length, replicate}
use Rattle.bits.specs.Answer.{part_of}
use Rattle.bits.specs.Field.{bit, field}
use Rattle.pes.specs.Stream.{parsed_id}
use Rattle.pes.specs.Head.{not_head, id_of}
use Rattle.packet.specs.Packet.{start_flag, payload_flag, adaptation_flag, adaptation_there, content_at, payload_there}
use Rattle.contents.specs.Contents.{not_contents, flagged, read_pts_dts, data_length, times_size, escr_at, es_rate_at, trick_at, copy_info_at, crc_at}
use Rattle.contents.specs.Contents.{fields_end, payload_at}
use Rattle.event_log.specs.declared.Event.{Event}
use Rattle.event_log.specs.Entry.{event, begin_packet}
use Rattle.machine.specs.declared.Mode.{Mode}
use Rattle.machine.specs.declared.Mode.TheVariants.{Crate, Standard}
use Rattle.machine.specs.Events.{continuity_by, discontinuity, head_accepted, announces, announcement, begun, events_of, run}
use Rattle.machine.specs.History.{first}
use Rattle.machine.specs.Step.{fresh}
use Rattle.pes_header.specs.Payload.{header_payload, payload_bytes}
use Rattle.gather.specs.Belongs.{event_bytes}
use Rattle.writer.specs.declared.Route.{Route}
use Rattle.writer.specs.declared.Times.{Times}
use Rattle.writer.specs.declared.Times.TheVariants.{Untimed, Pts}
use Rattle.writer.specs.declared.Unit.{Unit}
use Rattle.writer.specs.Unit.{data_of, stated_length, count_of}
use Rattle.writer.specs.Writer.{route_tests, unit_tests, size_tests, write_of}
use Rattle.gather.specs.Gather.{emptied, wrong_gathering}
use Rattle.units.specs.Units.{standing, bytes_at}
use Rattle.capacity.specs.Reads.{up_to_begin, segment, segments, HasFields, Delivers}
use Rattle.capacity.specs.Demand.{Permitted, Accepts, count_given, output_bytes, at_start, continues_of, events_written, events_logged}
use Rattle.capacity.specs.ReadBack.{ReadBack}
use Rattle.capacity.proofs.Theorems.{read_back_lem}

abbrev unit : ℕ → Bool → Times → Unit
unit i b t =
    record {
      id = i;
      bounded = b;
      priority = false;
      alignment = false;
      copyright = false;
      original = false;
      times = t;
      escr = None;
      rate = None;
      trick = None;
      copy = None;
      crc = None;
    }

abbrev way : Route
way = record { pid = 256; counter = 15 }

-- the longest bounded unit with a PTS
pub permitted-some : Permitted way (unit 0xE0 true (Pts 90_000)) 65_527
unfolding route_tests unit_tests size_tests stated_length data_of parsed_id
permitted-some =
    record {
      route-good = refl;
      unit-good = refl;
      size-good = refl;
      typed = record { id-byte = omega arith; trick-byte = omega arith; crc-word = omega arith };
    }

-- a call that is accepted, with a payload of one byte, read back by a machine of each mode before its first packet
abbrev small : Unit
small = unit 0xE0 true (Pts 90_000)

accepted-some : Accepts way small (7 ∷ []) (replicate 188 0)
unfolding write_of route_tests unit_tests size_tests stated_length count_of data_of parsed_id
accepted-some = refl

pub read_back-some : (mo : Mode) → ReadBack way small (7 ∷ []) (count_given way small (7 ∷ []) (replicate 188 0))
    (output_bytes way small (7 ∷ []) (replicate 188 0)) (fresh mo) (replicate 16 0) (standing emptied (0 ∷ []))
unfolding wrong_gathering write_of route_tests unit_tests size_tests stated_length count_of data_of parsed_id announcement at_start events_written continues_of
read_back-some mo =
    read_back_lem way small (7 ∷ []) (replicate 188 0) (fresh mo) (replicate 16 0) (standing emptied (0 ∷ [])) accepted-some
    (record { id-byte = omega arith; trick-byte = omega arith; crc-word = omega arith })
    (omega arith) (refl, omega arith, refl) (omega arith) (room mo) refl (omega arith)
  where
    room : (mo : Mode) → 0 + 8 * length (events_logged small 1 (fresh mo)) ≤ 16
    room Crate = omega arith
    room Standard = omega arith

-- with a bare id the payload begins right after the head: one packet has 178 bytes of it, for which the count is two
abbrev bare : Unit
bare = unit 0xBC true Untimed

abbrev carries : List ℕ
carries = 0x80 ∷ 0 ∷ 0 ∷ replicate 175 0

abbrev packet : List ℕ
packet = 0x47 ∷ 0x40 ∷ 0 ∷ 0x10 ∷ 0 ∷ 0 ∷ 1 ∷ 0xBC ∷ 0 ∷ 0 ∷ carries

abbrev begin : Event
begin = event begin_packet 0 4 184

bare-one : (mo : Mode) → segments (run 0 (first mo) (packet ∷ [])) ≡ segment begin [] ∷ []
unfolding segments up_to_begin run events_of announces announcement begun continuity_by discontinuity start_flag head_accepted payload_there payload_flag content_at adaptation_there adaptation_flag not_head bit field
bare-one Crate = refl
bare-one Standard = refl

bare-bytes : bytes_at (packet ∷ []) begin ≡ 0 ∷ 0 ∷ 1 ∷ 0xBC ∷ 0 ∷ 0 ∷ carries
unfolding event_bytes
bare-bytes = refl

bare-fields : HasFields bare (0 ∷ 0 ∷ 1 ∷ 0xBC ∷ 0 ∷ 0 ∷ carries)
unfolding not_head id_of not_contents flagged read_pts_dts data_length times_size escr_at es_rate_at trick_at copy_info_at crc_at fields_end payload_at bit field
bare-fields =
    record {
      head = refl;
      id = refl;
      accepted = refl;
      priority = refl;
      alignment = refl;
      copyright = refl;
      original = refl;
      times = refl;
      escr = refl;
      rate = refl;
      trick = refl;
      copy = refl;
      crc = refl;
    }

bare_payload : payload_bytes (0 ∷ 0 ∷ 1 ∷ 0xBC ∷ 0 ∷ 0 ∷ carries) ++ [] ≡ carries
unfolding payload_bytes header_payload part_of parsed_id not_head id_of bit field
bare_payload = refl

pub bare_in-one : (mo : Mode) → Delivers bare carries (first mo) (packet ∷ [])
bare_in-one mo =
    record {
      packets = ((refl, refl), tt);
      segment-of = segment begin [];
      one = bare-one mo;
      gives = record { header = rw bare-bytes bare-fields; payload-joined = rw bare-bytes bare_payload };
    }

pub bare_counts_two : count_of bare (length carries) ≡ 2
unfolding count_of data_of
bare_counts_two = refl
