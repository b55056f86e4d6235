-- The packets of a unit: the bytes that they carry, their events, and the bytes of each event.
-- Assumes nothing.
use mathlib.Core.Path.{◌≡◌, sym, ap, ap₂, ◌∙◌}
use mathlib.Core.Bool.{true}
use mathlib.Core.List.{List, [], ◌∷◌, ◌++◌}
use Prim.Native.Nat.{ℕ, suc, ◌+◌, ◌-◌, min}
use native.Mathlib.Omega.{arith}
use lib.ListN.{length, take, drop, length-append, take-append-drop}
use lib.Seq.{take-append-add, drop-append-add}
use lib.Dec.{eqb}
use Rattle.bits.specs.Answer.{Answer, answer, All}
use Rattle.bits.specs.Numbers.{done}
use Rattle.packet.specs.Packet.{pid_field}
use Rattle.event_log.specs.Entry.{begin_packet}
use Rattle.machine.specs.Events.{State, head_accepted, run}
use Rattle.writer.specs.declared.Route.{Route}
use Rattle.writer.specs.declared.Unit.{Unit}
use Rattle.writer.specs.Unit.{data_of, count_of}
use Rattle.writer.specs.Packets.{header_image, carried, packets_of}
use Rattle.writer.proofs.Laws.{header-length}
use Rattle.machine.specs.Run.{IsPacket}
use Rattle.units.specs.Units.{bytes_at, bytes_at_all}
use Rattle.capacity.specs.Reads.{Segment, segment, segments, Gives}
use Rattle.capacity.specs.Demand.{Permitted, Ready, end_of, continues_of, events_written, Counters}
use Rattle.capacity.proofs.Permits.{RouteFits, UnitFits, route-fits, unit-fits}
use Rattle.capacity.proofs.HeaderBack.{data_small, headed_back, fields_back, payload-after}
use Rattle.capacity.proofs.Carried.{Takes, one-segment, made-packets, made-pids, made-counters, carried-length, run-carried}
use Rattle.capacity.proofs.Carried.{first-bytes, rest-bytes}

pub written_count : (r : Route) (u : Unit) (payload : List ℕ) → length (packets_of r u payload) ≡ count_of u (length payload)
unfolding packets_of
written_count r u payload =
    carried-length (count_of u (length payload)) 1 r.pid r.counter (header_image u (length payload) ++ payload)

pub all-packets : (r : Route) (u : Unit) (payload : List ℕ) → All IsPacket (packets_of r u payload)
unfolding packets_of
all-packets r u payload = made-packets (count_of u (length payload)) 1 r.pid r.counter (header_image u (length payload) ++ payload)

module _ (r : Route) (u : Unit) (payload : List ℕ) (ok : Permitted r u (length payload)) where
  abbrev n : ℕ
  n = length payload

  abbrev way : RouteFits r
  way = route-fits r u n ok

  abbrev fit : UnitFits u n
  fit = unit-fits r u n ok

  -- the bytes that the packets carry
  abbrev stream : List ℕ
  stream = header_image u n ++ payload

  pub stream-length : length stream ≡ 9 + data_of u + n
  stream-length = omega (arith, length-append (header_image u n) payload, header-length u n)

  -- the count, less one
  abbrev k : ℕ
  k = count_of u n - 1

  count-is : count_of u n ≡ suc k
  unfolding count_of
  count-is = omega arith

  pub stream_takes : Takes (count_of u n) stream
  unfolding count_of
  stream_takes = omega (arith, stream-length)

  takes : Takes (suc k) stream
  takes = omega (arith, stream_takes, count-is)

  packets-are : packets_of r u payload ≡ carried (suc k) 1 r.pid r.counter stream
  unfolding packets_of
  packets-are = ap (λ (m : ℕ). carried m 1 r.pid r.counter stream) count-is

  -- what of the payload goes into the first packet
  abbrev first : List ℕ
  first = take (175 - data_of u) payload

  split : 184 ≡ length (header_image u n) + (175 - data_of u)
  split = omega (arith, header-length u n, data_small u)

  first_chunk : take 184 stream ≡ header_image u n ++ first
  first_chunk = ap (λ (m : ℕ). take m stream) split ∙ take-append-add (header_image u n) payload (175 - data_of u)

  rest-chunk : drop 184 stream ≡ drop (175 - data_of u) payload
  rest-chunk = ap (λ (m : ℕ). drop m stream) split ∙ drop-append-add (header_image u n) payload (175 - data_of u)

  headed : head_accepted (take 184 stream) ≡ true
  unfolding head_accepted
  headed = ap head_accepted first_chunk ∙ ap (λ (a : Answer). eqb a.number done) (headed_back u n fit first (answer done []))

  pub unit-run : (s : State) → Ready r s → run 0 s (packets_of r u payload) ≡ events_written s (count_of u n) (9 + data_of u + n)
  unit-run s f =
      ap (run 0 s) packets-are
      ∙ (run-carried k r.pid r.counter stream takes s way.counter-fits f headed
      ∙ ap₂ (events_written s) (sym count-is) stream-length)

  -- its only segment
  abbrev pub whole : Segment
  whole = segment (end_of begin_packet 0 (min 184 (9 + data_of u + n))) (continues_of 1 (count_of u n - 1) (9 + data_of u + n - 184))

  -- the bytes of its begin
  pub first-is : bytes_at (packets_of r u payload) whole.first ≡ header_image u n ++ first
  first-is = rw (packets-are, ← stream-length) (first-bytes k r.pid r.counter stream takes ∙ first_chunk)

  rest-is : bytes_at_all (packets_of r u payload) whole.later ≡ drop (175 - data_of u) payload
  rest-is = rw (packets-are, ← stream-length) (rest-bytes k r.pid r.counter stream takes ∙ rest-chunk)

  pub unit-gives : Gives (packets_of r u payload) u payload whole
  unit-gives =
      record {
        header = rw first-is (fields_back u n fit first);
        payload-joined = rw (first-is, rest-is, payload-after u n fit first) (take-append-drop (175 - data_of u) payload);
      }

  pub unit-segments : (s : State) → Ready r s → segments (run 0 s (packets_of r u payload)) ≡ whole ∷ []
  unit-segments s f = ap segments (unit-run s f) ∙ one-segment s (count_of u n) (9 + data_of u + n)

  pub unit-pids : All (λ (p : List ℕ). pid_field p ≡ r.pid) (packets_of r u payload)
  unfolding packets_of
  unit-pids = made-pids (count_of u n) 1 r.pid r.counter stream (omega (arith, way.pid_high))

  pub unit-counters : Counters r.counter (packets_of r u payload)
  unfolding packets_of
  unit-counters = made-counters (count_of u n) 1 r.pid r.counter stream way.counter-fits
