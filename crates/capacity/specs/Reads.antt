-- What a list of packets gives, read from the machine's events by their place and length in the packets.
use Rattle.std.specs.Prelude.{Option, None, Some, ◌≡◌, Bool, List, [], ◌∷◌, ◌++◌, ℕ, drop, eqb}
use Rattle.bits.specs.Answer.{Answer, answer, pick, truth, All}
use Rattle.bits.specs.Numbers.{done, field_not_present}
use Rattle.pes.specs.Head.{read_head, id_of}
use Rattle.contents.specs.Contents.{pes_priority_bit, alignment_bit, copyright_bit, original_bit}
use Rattle.contents.specs.Contents.{read_contents, read_fixed, read_pts_dts, read_escr, read_es_rate, read_copy_info, read_crc}
use Rattle.contents.specs.Trick.{read_raw_trick}
use Rattle.pes_header.specs.Payload.{payload_bytes}
use Rattle.event_log.specs.declared.Event.{Event}
use Rattle.event_log.specs.Entry.{begin_packet, continue_packet}
use Rattle.machine.specs.Events.{State, run}
use Rattle.machine.specs.Run.{IsPacket}
use Rattle.units.specs.Units.{bytes_at, bytes_at_all}
use Rattle.writer.specs.declared.Times.{Times}
use Rattle.writer.specs.declared.Times.TheVariants.{Untimed, Pts, Both}
use Rattle.writer.specs.declared.Unit.{Unit}

-- ---- segments

abbrev pub begins : Event → Bool
begins e = eqb e.kind begin_packet

abbrev pub continues : Event → Bool
continues e = eqb e.kind continue_packet

-- the continues up to the next begin
unfoldable pub up_to_begin : List Event → List Event
up_to_begin [] = []
up_to_begin (e ∷ es) = pick (begins e) [] (pick (continues e) (e ∷ up_to_begin es) (up_to_begin es))

-- a begin, and the continues up to the next begin
pub record Segment : Type 0 where
  pub first : Event
  pub later : List Event

abbrev pub segment : Event → List Event → Segment
segment e es = record { first = e; later = es }

unfoldable pub segments : List Event → List Segment
segments [] = []
segments (e ∷ es) = pick (begins e) (segment e (up_to_begin es) ∷ segments es) (segments es)

-- ---- the fields of a unit, as the readers give them

abbrev pub written_times : Times → Answer
written_times Untimed = answer field_not_present []
written_times (Pts p) = answer done (1 ∷ done ∷ p ∷ [])
written_times (Both p d) = answer done (2 ∷ done ∷ p ∷ done ∷ d ∷ [])

abbrev pub written_escr : Option (ℕ × ℕ) → Answer
written_escr None = answer field_not_present []
written_escr (Some e) = answer done (e.0 ∷ e.1 ∷ [])

abbrev pub written_field : Option ℕ → Answer
written_field None = answer field_not_present []
written_field (Some v) = answer done (v ∷ [])

abbrev pub written_bit : Bool → Answer
written_bit b = answer done (truth b ∷ [])

-- what follows the six bytes of a head
abbrev pub contents : List ℕ → List ℕ
contents xs = drop 6 xs

-- a header, from its six bytes on, has the fields of a unit: each reader gives what the unit has
pub record HasFields (u : Unit) (xs : List ℕ) : Type 0 where
  pub head : read_head xs ≡ answer done []
  pub id : id_of xs ≡ u.id
  pub accepted : read_contents (contents xs) ≡ answer done []
  pub priority : read_fixed pes_priority_bit 1 (contents xs) ≡ written_bit u.priority
  pub alignment : read_fixed alignment_bit 1 (contents xs) ≡ written_bit u.alignment
  pub copyright : read_fixed copyright_bit 1 (contents xs) ≡ written_bit u.copyright
  pub original : read_fixed original_bit 1 (contents xs) ≡ written_bit u.original
  pub times : read_pts_dts (contents xs) ≡ written_times u.times
  pub escr : read_escr (contents xs) ≡ written_escr u.escr
  pub rate : read_es_rate (contents xs) ≡ written_field u.rate
  pub trick : read_raw_trick (contents xs) ≡ written_field u.trick
  pub copy : read_copy_info (contents xs) ≡ written_field u.copy
  pub crc : read_crc (contents xs) ≡ written_field u.crc

-- ---- what is given

-- a segment gives a unit and its payload: the begin's header has its fields, and the payload that the header hands out, joined with the
-- bytes of the continues, is the payload
pub record Gives (ps : List (List ℕ)) (u : Unit) (payload : List ℕ) (g : Segment) : Type 0 where
  pub header : HasFields u (bytes_at ps g.first)
  pub payload-joined : payload_bytes (bytes_at ps g.first) ++ bytes_at_all ps g.later ≡ payload

-- THESE PACKETS, READ FROM THIS STATE, DELIVER THE UNIT: there is one begin, and its segment gives the unit with its payload
pub record Delivers (u : Unit) (payload : List ℕ) (s : State) (ps : List (List ℕ)) : Type 0 where
  pub packets : All IsPacket ps
  pub segment-of : Segment
  pub one : segments (run 0 s ps) ≡ segment-of ∷ []
  pub gives : Gives ps u payload segment-of
