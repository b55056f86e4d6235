-- Demand 3: what the writer accepts reads back whole, in the fewest packets.
use Rattle.control.specs.declared.ContinuityCounter.{ContinuityCounter}
use Rattle.std.specs.Prelude.{Option, None, Some, ◌≡◌, true, List, [], ◌∷◌, ◌++◌, map, ℕ, zero, suc, ◌+◌, ◌-◌, ◌*◌, ◌%◌, ◌≤◌, min, length, get_or, take}
use Rattle.bits.specs.Answer.{All}
use Rattle.bits.specs.Numbers.{done}
use Rattle.packet.specs.Packet.{pid_field, counter_field}
use Rattle.pes.specs.Head.{packet_length}
use Rattle.event_log.specs.declared.Event.{Event}
use Rattle.event_log.specs.Entry.{event, begin_packet, continue_packet}
use Rattle.machine.specs.declared.Continuity.TheVariants.{GoesOn}
use Rattle.machine.specs.declared.Machine.{Machine}
use Rattle.machine.specs.Events.{State, due, announcement, ended, run}
use Rattle.machine.specs.Step.{state_of}
use Rattle.machine.specs.Run.{packets_in, shifted}
use Rattle.writer.specs.declared.Route.{Route}
use Rattle.writer.specs.declared.Unit.{Unit}
use Rattle.writer.specs.Unit.{data_of, stated_length, count_of}
use Rattle.writer.specs.Writer.{all_of, route_tests, unit_tests, size_tests, write_of, output_of}
use Rattle.units.specs.Units.{bytes_at}
use Rattle.capacity.specs.Reads.{Delivers}

-- ---- what is permitted

abbrev pub at_most : ℕ → Option ℕ → Type 0
at_most z None = 0 ≤ 0
at_most z (Some v) = v ≤ z

-- the fields that the writer does not test are numbers of their types: every value of the type Unit is such, as id and trick mode byte
-- are u8 and the CRC field is u16
pub record Typed (u : Unit) : Type 0 where
  pub id-byte : u.id ≤ 255
  pub trick-byte : at_most 255 u.trick
  pub crc-word : at_most 65535 u.crc

-- neither 17 nor 18: every test of the field list and of the size list holds
pub record Permitted (r : Route) (u : Unit) (n : ℕ) : Type 0 where
  pub route-good : all_of (route_tests r) ≡ true
  pub unit-good : all_of (unit_tests u) ≡ true
  pub size-good : all_of (size_tests u n) ≡ true
  pub typed : Typed u

-- ---- what `write` gives, by its promise: it accepts where it answers 0

abbrev pub Accepts : Route → Unit → List ℕ → List ℕ → Type 0
Accepts r u payload out = (write_of r u payload out).number ≡ done

-- the count that it answers
abbrev pub count_given : Route → Unit → List ℕ → List ℕ → ℕ
count_given r u payload out = get_or (write_of r u payload out).values 0 0

-- so many packets of the output as it leaves it: their bytes, and cut as `run` cuts them
abbrev pub output_bytes : Route → Unit → List ℕ → List ℕ → List ℕ
output_bytes r u payload out = take (188 * count_given r u payload out) (output_of r u payload out)

abbrev pub output_packets : Route → Unit → List ℕ → List ℕ → List (List ℕ)
output_packets r u payload out = packets_in (output_bytes r u payload out)

-- no last counter, or the one before the first: any mode, any phase, whatever may be repeated, announced or not
abbrev pub Before : ℕ → Option ContinuityCounter → Type 0
Before c None = 0 ≤ 0
Before c (Some l) = (l.val + 1) % 16 ≡ c

abbrev pub Ready : Route → State → Type 0
Ready r s = Before r.counter s.last

-- ---- the events of a unit that is written

-- an event with the last r bytes of packet i
abbrev pub end_of : ℕ → ℕ → ℕ → Event
end_of k i r = event k i (188 - r) r

-- the continues of k packets from packet i on that carry m bytes: 184 each, the last the rest
unfoldable pub continues_of : ℕ → ℕ → ℕ → List Event
continues_of i zero m = []
continues_of i (suc k) m = end_of continue_packet i (min 184 m) ∷ continues_of (suc i) k (m - 184)

-- what a state gives on a start where a packet goes on: StartStream where it is due, EndPacket where a unit was open
unfoldable pub at_start : State → ℕ → List Event
at_start s i = announcement (due s.mode GoesOn s.phase s.announced true) i ++ ended s.phase i

-- these, one begin, then continues: no break
unfoldable pub events_written : State → ℕ → ℕ → List Event
events_written s k m = at_start s 0 ++ (end_of begin_packet 0 (min 184 m) ∷ continues_of 1 (k - 1) (m - 184))

-- ---- read from the strictest side

-- the packets run from a counter on
abbrev pub Counters : ℕ → List (List ℕ) → Type 0
Counters c [] = 0 ≤ 0
Counters c (p ∷ ps) = (counter_field p ≡ c) × Counters ((c + 1) % 16) ps

-- packets that deliver a unit as the writer is asked to: with its PID and counters, in so many packets, with no other event than
-- the listed, and the stated length
pub record Strict (r : Route) (u : Unit) (payload : List ℕ) (s : State) (ps : List (List ℕ)) : Type 0 where
  pub ready : Ready r s
  pub pids : All (λ (p : List ℕ). pid_field p ≡ r.pid) ps
  pub counters : Counters r.counter ps
  pub events : run 0 s ps ≡ events_written s (length ps) (9 + data_of u + length payload)
  pub delivers : Delivers u payload s ps
  pub stated : packet_length (bytes_at ps delivers.segment-of.first) ≡ stated_length u (length payload)

-- ---- over the machine with its log

-- the events of a unit, from the machine's next packet on
abbrev pub events_logged : Unit → ℕ → Machine → List Event
events_logged u n m = map (shifted m.taken) (events_written (state_of m) (count_of u n) (9 + data_of u + n))
