-- Demand 3 by calls of code alone, each by the definition in its promise: `write`, then `run` over its output, `entry_at` for every entry
-- of the log, `gather` with every event and its packet, and `bytes`.
use Rattle.std.specs.Prelude.{◌≡◌, true, List, [], ◌∷◌, ℕ, zero, suc, ◌+◌, ◌-◌, ◌*◌, ◌/◌, ◌<◌, length, get_or, take, drop}
use Rattle.bits.specs.Answer.{Answer, answer, All}
use Rattle.bits.specs.Numbers.{done}
use Rattle.event_log.specs.declared.Event.{Event}
use Rattle.event_log.specs.Entry.{event, event_values, read_entry}
use Rattle.machine.specs.declared.Machine.{Machine}
use Rattle.machine.specs.Run.{packets_in, report_of, ran_log}
use Rattle.gather.specs.Belongs.{event_bytes}
use Rattle.gather.specs.Gather.{GatherOutcome, gather_of, store_of, read_of, held_bytes}
use Rattle.units.specs.Units.{Standing, standing, last_event, Taken}
use Rattle.writer.specs.declared.Route.{Route}
use Rattle.writer.specs.declared.Unit.{Unit}
use Rattle.writer.specs.Unit.{data_of}
use Rattle.capacity.specs.Reads.{Segment, segments}
use Rattle.capacity.specs.Accepted.{PacketsRead, HeaderRead}
use Rattle.capacity.specs.Demand.{events_logged}

-- ---- `entry_at`

abbrev pub none : Event
none = event 0 0 0 0

-- the event that its answer holds
abbrev pub event_read : Answer → Event
event_read a = event (get_or a.values 0 0) (get_or a.values 1 0) (get_or a.values 2 0) (get_or a.values 3 0)

-- the events of so many entries, from a place of the log on
unfoldable pub events_read : List ℕ → ℕ → ℕ → List Event
events_read log at zero = []
events_read log at (suc k) = event_read (read_entry log at) ∷ events_read log (at + 8) k

-- those that a run adds: from the machine's place before it up to that after it
abbrev pub events_added : Machine → List ℕ → List ℕ → List Event
events_added m bytes log = events_read (ran_log m bytes log) m.place (((report_of m bytes log).machine.place - m.place) / 8)

-- ---- `gather`

-- the packet of an event, in bytes whose first packet has the index i
abbrev pub packet_at : ℕ → List ℕ → Event → List ℕ
packet_at i bytes e = take 188 (drop (188 * (e.index - i)) bytes)

module _ (i : ℕ) (bytes : List ℕ) where
  -- a call with an event and its packet
  abbrev pub call : Standing → Event → GatherOutcome
  call t e = gather_of t.gathering (packet_at i bytes e) e t.store

  abbrev pub after_call : Standing → Event → Standing
  after_call t e = standing (call t e).gathering (store_of t.gathering (packet_at i bytes e) e t.store)

  -- call by call: the numbers answered, and what stands after the last
  unfoldable pub call_numbers : Standing → List Event → List ℕ
  call_numbers t [] = []
  call_numbers t (e ∷ es) = (call t e).number ∷ call_numbers (after_call t e) es

  unfoldable pub after_calls : Standing → List Event → Standing
  after_calls t [] = t
  after_calls t (e ∷ es) = after_calls (after_call t e) es

-- ---- all of them

-- bytes of so many packets, taken by a machine with a log and a gathering store, read back as a unit and its payload
pub record ReadBack (r : Route) (u : Unit) (payload : List ℕ) (count : ℕ) (bytes : List ℕ) (m : Machine) (log : List ℕ) (t : Standing)
    : Type 0 where
  -- `run` takes every packet
  pub ran : (report_of m bytes log).number ≡ done
  pub packets : (report_of m bytes log).packets ≡ count
  pub ended : (report_of m bytes log).ended ≡ done
  -- `entry_at` reads every entry that it added; they are the unit's events
  pub entries : (k : ℕ) → k < length (events_added m bytes log)
      → read_entry (ran_log m bytes log) (m.place + 8 * k) ≡ answer done (event_values (get_or (events_added m bytes log) k none))
  pub events : events_added m bytes log ≡ events_logged u (length payload) m
  -- one of them is a begin, and its header has every field; so has every packet
  pub segment-of : Segment
  pub one-begin : segments (events_added m bytes log) ≡ segment-of ∷ []
  pub header : HeaderRead u (length payload) (event_bytes (packet_at m.taken bytes segment-of.first) segment-of.first)
  pub packets-read : PacketsRead true r.pid r.counter (9 + data_of u + length payload) (packets_in bytes)
  -- `gather` takes every event, and the bytes read out after the last are the payload
  pub gathered : All Taken (call_numbers m.taken bytes t (events_added m bytes log))
  pub held : let s = after_calls m.taken bytes t (events_added m bytes log) in
      read_of s.gathering (packet_at m.taken bytes (last_event none (events_added m bytes log))) s.store ≡ done
  pub read_out : let s = after_calls m.taken bytes t (events_added m bytes log) in
      held_bytes s.gathering (packet_at m.taken bytes (last_event none (events_added m bytes log))) s.store ≡ payload
