-- Demand 3: what the writer accepts reads back whole, in the fewest packets, and 19 is given exactly when no packets that fit would do.
-- A state and a machine have their mode, so what is said of all of them is said of both modes.
-- Assumes nothing.
use mathlib.Core.Path.{◌≡◌, refl, sym, ap, ap₂, subst, ◌∙◌}
use mathlib.Core.Logic.{◌↔◌}
use mathlib.Core.Bool.{Bool, true, false, not}
use mathlib.Core.List.{List, [], ◌∷◌, ◌++◌, map}
use Prim.Native.Nat.{ℕ, ◌+◌, ◌-◌, ◌*◌, ◌/◌, ◌%◌, ◌≤◌, ◌<◌, min}
use native.Mathlib.Omega.{arith}
use lib.ListN.{length, get_or, take, drop}
use lib.Seq.{take_at, drop_at}
use lib.Dec.{ltb}
use borrow.Author.Tests.{eq-eqb, ltb-true, ltb-false, le-ltb}
use Rattle.bits.specs.Answer.{Answer, answer, pick, Check, ◌gives◌, unless, All}
use Rattle.bits.specs.Numbers.{done, bad_field, too_long, no_room}
use Rattle.bits.specs.Pack.{flat}
use Rattle.bits.proofs.Checks.{accepted-by}
use Rattle.pes.specs.Stream.{parsed_id}
use Rattle.event_log.specs.declared.Event.{Event}
use Rattle.event_log.specs.Entry.{begin_packet}
use Rattle.machine.specs.declared.Mode.{Mode}
use Rattle.machine.specs.declared.Machine.{Machine}
use Rattle.machine.specs.Events.{State, run}
use Rattle.machine.specs.History.{first}
use Rattle.machine.specs.Step.{state_of, Stands}
use Rattle.machine.specs.Run.{report_of, ran_log, IsPacket, Logged}
use Rattle.machine.proofs.Theorems.{run-logged}
use Rattle.machine.proofs.Slices.{flat-length, packets-flat}
use Rattle.gather.specs.Gather.{read_of, held_bytes}
use Rattle.units.specs.Units.{Standing, packet_of, gather_all, answers, read_at, bytes_at, last_event, Inside, GatheringStands, Taken, Open}
use Rattle.gather.proofs.Laws.{read_done}
use Rattle.units.proofs.Theorems.{packet_there}
use Rattle.writer.specs.declared.Route.{Route}
use Rattle.writer.specs.declared.Unit.{Unit}
use Rattle.writer.specs.Unit.{data_of, count_of}
use Rattle.writer.specs.Packets.{packets_of}
use Rattle.writer.specs.Writer.{all_of, route_tests, unit_tests, size_tests, not_written, write_of, output_of}
use Rattle.capacity.specs.Reads.{segment, segments, Delivers}
use Rattle.capacity.specs.Accepted.{PacketsRead, HeaderRead}
use Rattle.capacity.specs.Demand.{Typed, Permitted, Accepts, count_given, output_bytes, output_packets}
use Rattle.capacity.specs.Demand.{Ready, at_start, end_of, continues_of, events_written, Strict, events_logged}
use Rattle.capacity.specs.ReadBack.{none, events_read, events_added, packet_at, call_numbers, after_calls, ReadBack}
use Rattle.capacity.proofs.Permits.{unit-fits}
use Rattle.capacity.proofs.Carried.{one-segment}
use Rattle.capacity.proofs.Written.{written_count, all-packets, unit-run}
use Rattle.capacity.proofs.Gathered.{part-inside, continues-inside, long_enough}
use Rattle.capacity.proofs.Calls.{events-read, packet-at, bytes_shifted, numbers-shifted, calls-shifted, shifted_segment, segments-shifted}
use Rattle.capacity.proofs.Calls.{last-past, last-inside}
use Rattle.capacity.proofs.Delivered.{permitted_written, permitted-events, permitted-accepted, permitted-header}
use Rattle.capacity.proofs.Delivered.{permitted-gathered}
use Rattle.capacity.proofs.Least.{least-segment, segment-within}

-- ---- 1. what the writer accepts: units that are permitted, where they have room

-- the writer's four tests in their order
abbrev tests : Bool → Bool → Bool → Bool → List Check
tests a b c d = not a gives bad_field ∷ not b gives bad_field ∷ not c gives too_long ∷ d gives no_room ∷ []

abbrev Unrefused : Answer → Type 0
Unrefused a = (a.number ≡ bad_field → ⊥) × (a.number ≡ too_long → ⊥)

three_passed : (a b c d : Bool) (s : Answer) → Unrefused (unless (tests a b c d) s) → (a ≡ true) × (b ≡ true) × (c ≡ true)
three_passed true true true d s h = (refl, refl, refl)
three_passed true true false d s h = absurd (h.1 refl)
three_passed true false c d s h = absurd (h.0 refl)
three_passed false b c d s h = absurd (h.0 refl)

unrefused : (d : Bool) (k : ℕ) → Unrefused (pick d (answer no_room []) (answer done (k ∷ [])))
unrefused true k = (λ z. let y : ◌≡◌ {A = ℕ} 19 17 = z in omega arith, λ z. let y : ◌≡◌ {A = ℕ} 19 18 = z in omega arith)
unrefused false k = (λ z. let y : ◌≡◌ {A = ℕ} 0 17 = z in omega arith, λ z. let y : ◌≡◌ {A = ℕ} 0 18 = z in omega arith)

module _ (r : Route) (u : Unit) (payload out : List ℕ) where
  abbrev narrow : Bool
  narrow = ltb (length out / 188) (count_of u (length payload))

  unrefused_permitted : Typed u → Unrefused (write_of r u payload out) → Permitted r u (length payload)
  unfolding write_of
  unrefused_permitted t h =
      let p = three_passed (all_of (route_tests r)) (all_of (unit_tests u)) (all_of (size_tests u (length payload))) narrow _ h in
      record { route-good = p.0; unit-good = p.1; size-good = p.2; typed = t }

  -- AN ACCEPTED CALL IS OF A PERMITTED UNIT, and is answered by its count
  pub accepted-permitted : Accepts r u payload out → Typed u → Permitted r u (length payload)
  accepted-permitted h t = unrefused_permitted t (λ z. omega (arith, h), λ z. omega (arith, h))

  pub accepted-answer : Accepts r u payload out → write_of r u payload out ≡ answer done (count_of u (length payload) ∷ [])
  unfolding write_of
  accepted-answer h = accepted-by (not_written r u (length payload) (length out)) _ (omega arith) h _

  pub accepted-count : Accepts r u payload out → count_given r u payload out ≡ count_of u (length payload)
  accepted-count h = ap (λ (a : Answer). get_or a.values 0 0) (accepted-answer h)

  module _ (ok : Permitted r u (length payload)) where
    pub permitted-answer : write_of r u payload out ≡ pick narrow (answer no_room []) (answer done (count_of u (length payload) ∷ []))
    unfolding write_of
    permitted-answer = rw (ok.route-good, ok.unit-good, ok.size-good)

    -- a permitted unit with room is accepted
    pub has_room : 188 * count_of u (length payload) ≤ length out → write_of r u payload out ≡ answer done (count_of u (length payload) ∷ [])
    has_room h = permitted-answer ∙ rw (le-ltb (length out / 188) (count_of u (length payload)) (omega arith))

  -- 17 and 18 are what is not permitted, whatever the output
  pub permitted_exactly : Typed u → Permitted r u (length payload)
      ↔ (((write_of r u payload out).number ≡ bad_field → ⊥) × ((write_of r u payload out).number ≡ too_long → ⊥))
  permitted_exactly t = (λ ok. rw (permitted-answer ok) (unrefused narrow _), unrefused_permitted t)

-- ---- 2. what it leaves in its output

module _ (r : Route) (u : Unit) (payload out : List ℕ) (h : Accepts r u payload out) where
  abbrev size : ℕ
  size = 188 * count_of u (length payload)

  flat-size : length (flat (packets_of r u payload)) ≡ size
  flat-size = flat-length (packets_of r u payload) (all-packets r u payload) ∙ ap (λ (m : ℕ). 188 * m) (written_count r u payload)

  -- the packets, and past them what was there
  pub output-is : output_of r u payload out ≡ flat (packets_of r u payload) ++ drop size out
  unfolding output_of
  output-is = rw (eq-eqb (write_of r u payload out).number done h)

  pub output_past : drop size (output_of r u payload out) ≡ drop size out
  output_past = rw output-is (drop_at (flat (packets_of r u payload)) (drop size out) size flat-size)

  output-flat : output_bytes r u payload out ≡ flat (packets_of r u payload)
  output-flat =
      ap₂ (λ (k : ℕ) (xs : List ℕ). take (188 * k) xs) (accepted-count r u payload out h) output-is
      ∙ take_at (flat (packets_of r u payload)) (drop size out) size flat-size

  output_size : length (output_bytes r u payload out) ≡ size
  output_size = ap length output-flat ∙ flat-size

  -- its first bytes are the packets, as `run` takes them
  pub output-packets : output_packets r u payload out ≡ packets_of r u payload
  output-packets = rw output-flat (packets-flat (packets_of r u payload) (all-packets r u payload))

-- ---- 3. whatever packets deliver a unit, from whatever state, are at least its count

-- of what is permitted this needs that the id is one of parsed contents, and nothing else
pub least : (u : Unit) (payload : List ℕ) (s : State) (ps : List (List ℕ)) → parsed_id u.id ≡ true → Delivers u payload s ps
    → count_of u (length payload) ≤ length ps
least u payload s ps p d =
    let w = segment-within 0 s ps d.segment-of d.one in
    omega (arith, w.0, least-segment ps u payload d.segment-of p w.1 d.gives)

-- ---- 4. WHAT THE WRITER ACCEPTS READS BACK WHOLE, and no run of fewer packets does so

module _ (r : Route) (u : Unit) (payload out : List ℕ) (h : Accepts r u payload out) (typed : Typed u) where
  abbrev ok : Permitted r u (length payload)
  ok = accepted-permitted r u payload out h typed

  -- what is in the output delivers the unit as it is asked to
  pub written : (s : State) → Ready r s → Strict r u payload s (output_packets r u payload out)
  written s f = rw (output-packets r u payload out h) (permitted_written r u payload ok s f)

  -- it is as many packets as the writer answers, and whatever packets deliver the unit, from whatever state, are no fewer
  pub counted : length (output_packets r u payload out) ≡ count_given r u payload out
  counted = rw (output-packets r u payload out h, accepted-count r u payload out h) (written_count r u payload)

  pub fewest : (s : State) (ps : List (List ℕ)) → Delivers u payload s ps → count_given r u payload out ≤ length ps
  fewest s ps d = rw (accepted-count r u payload out h) (least u payload s ps (unit-fits r u (length payload) ok).id-parsed d)

  -- every reader of packet and header accepts it, and finds nothing set that the unit does not name
  pub accepted : PacketsRead true r.pid r.counter (9 + data_of u + length payload) (output_packets r u payload out)
  accepted = rw (output-packets r u payload out h) (permitted-accepted r u payload ok)

  -- the header stands in the bytes of the begin
  pub accepted-header : let begin = end_of begin_packet 0 (min 184 (9 + data_of u + length payload)) in
      HeaderRead u (length payload) (bytes_at (output_packets r u payload out) begin)
  accepted-header = rw (output-packets r u payload out h) (permitted-header r u payload ok)

-- ---- 5. 19 exactly when no packets that fit deliver a permitted unit: in each mode by itself, as over all states one mode would answer for the other

module _ (r : Route) (u : Unit) (payload : List ℕ) (ok : Permitted r u (length payload)) where
  abbrev count : ℕ
  count = count_of u (length payload)

  is-19 : (b : Bool) (m : ℕ) → pick b (answer no_room []) (answer done (m ∷ [])) ≡ answer no_room [] → b ≡ true
  is-19 true m e = refl
  is-19 false m e = let z : ◌≡◌ {A = ℕ} 0 19 = ap (λ (a : Answer). a.number) e in absurd (omega arith)

  -- of any way to deliver that takes the count, and that the writer's packets have from a state of the mode
  room_for : (mo : Mode) (A : State → List (List ℕ) → Type 0) → ((s : State) (ps : List (List ℕ)) → A s ps → count ≤ length ps)
      → A (first mo) (packets_of r u payload) → (out : List ℕ)
      → (write_of r u payload out ≡ answer no_room [])
      ↔ ((s : State) (ps : List (List ℕ)) → s.mode ≡ mo → 188 * length ps ≤ length out → A s ps → ⊥)
  room_for mo A low h₀ out =
      (λ e s ps m fits d. omega (arith, short e, low s ps d), λ h. permitted-answer r u payload out ok ∙ go (ltb (length out / 188) count) refl h)
    where
      short : write_of r u payload out ≡ answer no_room [] → length out / 188 < count
      short e = ltb-true (length out / 188) count (is-19 (ltb (length out / 188) count) count (sym (permitted-answer r u payload out ok) ∙ e))

      go : (b : Bool) → ltb (length out / 188) count ≡ b
          → ((s : State) (ps : List (List ℕ)) → s.mode ≡ mo → 188 * length ps ≤ length out → A s ps → ⊥)
          → pick b (answer no_room []) (answer done (count ∷ [])) ≡ answer no_room []
      go true e h = refl
      go false e h =
          absurd (h (first mo) (packets_of r u payload) refl (omega (arith, written_count r u payload, ltb-false (length out / 188) count e)) h₀)

  first-written : (mo : Mode) → Strict r u payload (first mo) (packets_of r u payload)
  first-written mo = permitted_written r u payload ok (first mo) (omega arith)

  enough : (s : State) (ps : List (List ℕ)) → Delivers u payload s ps → count ≤ length ps
  enough s ps d = least u payload s ps (unit-fits r u (length payload) ok).id-parsed d

  -- from a machine with no last counter or the one just before
  pub room : (mo : Mode) (out : List ℕ) → (write_of r u payload out ≡ answer no_room [])
      ↔ ((s : State) (ps : List (List ℕ)) → s.mode ≡ mo → Ready r s → 188 * length ps ≤ length out → Delivers u payload s ps → ⊥)
  room mo out =
      let way : State → List (List ℕ) → Type 0 = λ s ps. Ready r s × Delivers u payload s ps in
      let e = room_for mo way (λ s ps d. enough s ps d.1) (omega arith, (first-written mo).delivers) out in
      (λ a s ps m f fits d. e.0 a s ps m fits (f, d), λ a. e.1 (λ s ps m fits d. a s ps m d.0 fits d.1))

  -- from any machine
  pub room-weak : (mo : Mode) (out : List ℕ) → (write_of r u payload out ≡ answer no_room [])
      ↔ ((s : State) (ps : List (List ℕ)) → s.mode ≡ mo → 188 * length ps ≤ length out → Delivers u payload s ps → ⊥)
  room-weak mo = room_for mo (Delivers u payload) enough (first-written mo).delivers

  -- as the unit is asked to be delivered
  pub room-strict : (mo : Mode) (out : List ℕ) → (write_of r u payload out ≡ answer no_room [])
      ↔ ((s : State) (ps : List (List ℕ)) → s.mode ≡ mo → 188 * length ps ≤ length out → Strict r u payload s ps → ⊥)
  room-strict mo = room_for mo (Strict r u payload) (λ s ps d. enough s ps d.delivers) (first-written mo)

-- ---- 6. THE OUTPUT OF `write`, TAKEN BY `run` with room in index and log, LEAVES EXACTLY THE UNIT'S EVENTS IN THE LOG

pub logged : (r : Route) (u : Unit) (payload out : List ℕ) (m : Machine) (log : List ℕ)
    → Accepts r u payload out → Typed u
    → Ready r (state_of m) → Stands m log → m.taken + count_given r u payload out ≤ 4_294_967_295
    → m.place + 8 * length (events_logged u (length payload) m) ≤ length log
    → Logged m (output_bytes r u payload out) log (count_given r u payload out) (events_logged u (length payload) m)
logged r u payload out m log h typed f s t l =
    let ok = accepted-permitted r u payload out h typed in
    let q = output-packets r u payload out h in
    let n = counted r u payload out h typed in
    let e : run m.taken (state_of m) (output_packets r u payload out) ≡ events_logged u (length payload) m
    = ap (run m.taken (state_of m)) q ∙ permitted-events r u payload ok m f in
    let all : All IsPacket (output_packets r u payload out) = rw q (all-packets r u payload) in
    let w : length (output_bytes r u payload out) % 188 ≡ 0 = omega (arith, output_size r u payload out h) in
    run-logged m (output_bytes r u payload out) log _ _ s w all n e t l

-- ---- 7. what was written, taken by the machine and gathered in a store, is the payload

-- every call is answered by 0; a unit is open whose bytes are the payload, and they are what is read out
pub unit-gathered : (r : Route) (u : Unit) (payload out : List ℕ) (s : State) (t : Standing)
    → Accepts r u payload out → Typed u → Ready r s → GatheringStands t → length payload ≤ length t.store
    → let ps = output_packets r u payload out in
    let cs = continues_of 1 (count_given r u payload out - 1) (9 + data_of u + length payload - 184) in
    let b = end_of begin_packet 0 (min 184 (9 + data_of u + length payload)) in
    All Taken (answers ps t (run 0 s ps))
    × Open payload (length t.store) (gather_all ps t (run 0 s ps))
    × (read_at ps (gather_all ps t (run 0 s ps)) (last_event b cs) ≡ payload)
unit-gathered r u payload out s t h typed f good room =
    rw (output-packets r u payload out h, accepted-count r u payload out h)
    (permitted-gathered r u payload (accepted-permitted r u payload out h typed) s t f good room)

-- ---- 8. demand 3 by calls of code alone

module _ (r : Route) (u : Unit) (payload out : List ℕ) (m : Machine) (log : List ℕ) (t : Standing)
    (h : Accepts r u payload out) (typed : Typed u)
    (ready : Ready r (state_of m)) (stands : Stands m log) (long : m.taken + count_given r u payload out ≤ 4_294_967_295)
    (wide : m.place + 8 * length (events_logged u (length payload) m) ≤ length log)
    (good : GatheringStands t) (fits : length payload ≤ length t.store) where
  abbrev n : ℕ
  n = length payload

  abbrev sound : Permitted r u n
  sound = accepted-permitted r u payload out h typed

  abbrev bytes : List ℕ
  bytes = output_bytes r u payload out

  abbrev packets : List (List ℕ)
  packets = output_packets r u payload out

  -- the events with the first packet's index 0, of which this is the begin, and these are the continues
  abbrev es : List Event
  es = events_written (state_of m) (count_of u n) (9 + data_of u + n)

  abbrev b : Event
  b = end_of begin_packet 0 (min 184 (9 + data_of u + n))

  abbrev cs : List Event
  cs = continues_of 1 (count_of u n - 1) (9 + data_of u + n - 184)

  in-log : Logged m bytes log (count_given r u payload out) (events_logged u n m)
  in-log = logged r u payload out m log h typed ready stands long wide

  added-are : events_added m bytes log ≡ events_logged u n m
  added-are =
      let k : ((report_of m bytes log).machine.place - m.place) / 8 ≡ length (events_logged u n m) = omega (arith, in-log.place) in
      ap (events_read (ran_log m bytes log) m.place) k ∙ events-read (ran_log m bytes log) m.place (events_logged u n m) in-log.reads_back

  gathers : All Taken (answers packets t es)
      × Open payload (length t.store) (gather_all packets t es)
      × (read_at packets (gather_all packets t es) (last_event b cs) ≡ payload)
  gathers =
      rw (output-packets r u payload out h, ← unit-run r u payload sound (state_of m) ready)
      (permitted-gathered r u payload sound (state_of m) t ready good fits)

  size_is : length bytes ≡ 188 * count_of u n
  size_is = output_size r u payload out h

  stands_after : after_calls m.taken bytes t (events_added m bytes log) ≡ gather_all packets t es
  stands_after =
      ap (after_calls m.taken bytes t) added-are ∙ calls-shifted m.taken bytes (count_of u n) size_is t es

  last-packet : packet_at m.taken bytes (last_event none (events_added m bytes log)) ≡ packet_of packets (last_event b cs)
  unfolding events_written
  last-packet =
      ap (λ (x : List Event). packet_at m.taken bytes (last_event none x)) added-are
      ∙ (ap (packet_at m.taken bytes) (last-past m.taken none (at_start (state_of m) 0) b cs)
      ∙ packet-at m.taken bytes (count_of u n) size_is (last_event b cs))

  is-packet : IsPacket (packet_of packets (last_event b cs))
  is-packet =
      let q = output-packets r u payload out h in
      let ps = packets_of r u payload in
      let l = long_enough r u payload in
      let i : Inside ps (last_event b cs)
      = last-inside ps b cs (omega arith, part-inside (9 + data_of u + n)) (continues-inside ps 1 (count_of u n - 1) (9 + data_of u + n - 184) l) in
      rw q (packet_there ps (last_event b cs).index (all-packets r u payload) i.0)

  calls : ReadBack r u payload (count_given r u payload out) bytes m log t
  calls =
      let d = m.taken in
      let k = count_of u n in
      record {
        ran = in-log.accepted;
        packets = in-log.packets;
        ended = in-log.ended;
        entries = rw added-are in-log.reads_back;
        events = added-are;
        segment-of = shifted_segment d (segment b cs);
        one-begin = ap segments added-are
            ∙ (segments-shifted d es ∙ ap (map (shifted_segment d)) (one-segment (state_of m) k (9 + data_of u + n)));
        header = subst (λ (xs : List ℕ). HeaderRead u n xs) (sym (bytes_shifted d bytes k size_is b)) (accepted-header r u payload out h typed);
        packets-read = accepted r u payload out h typed;
        gathered = subst (All Taken) (sym (ap (call_numbers d bytes t) added-are ∙ numbers-shifted d bytes k size_is t es)) gathers.0;
        held = ap₂ (λ (s : Standing) (p : List ℕ). read_of s.gathering p s.store) stands_after last-packet
            ∙ sym (read_done _ _ _ is-packet.0 is-packet.1 gathers.1.good);
        read_out = ap₂ (λ (s : Standing) (p : List ℕ). held_bytes s.gathering p s.store) stands_after last-packet ∙ gathers.2;
      }

-- WHAT A CALL OF `write` THAT ANSWERS 0 LEAVES IN ITS OUTPUT READS BACK, CALL BY CALL: by a machine with no last counter or the one just before
-- that is not 14, with room in index and log, and a gathering state that is not 14, with room for the payload in its store
pub read_back_lem : (r : Route) (u : Unit) (payload out : List ℕ) (m : Machine) (log : List ℕ) (t : Standing)
    → Accepts r u payload out → Typed u
    → Ready r (state_of m) → Stands m log → m.taken + count_given r u payload out ≤ 4_294_967_295
    → m.place + 8 * length (events_logged u (length payload) m) ≤ length log
    → GatheringStands t → length payload ≤ length t.store
    → ReadBack r u payload (count_given r u payload out) (output_bytes r u payload out) m log t
read_back_lem = calls
