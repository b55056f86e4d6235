-- The packets of a permitted unit: they deliver it as it is asked to, every reader accepts them, and gathered they give the payload.
-- Theorems.antt says the same of what `write` leaves in its output.
-- Assumes nothing.
use mathlib.Core.Path.{◌≡◌, refl, sym, ap, ◌∙◌}
use mathlib.Core.Bool.{true}
use mathlib.Core.List.{List, ◌∷◌, ◌++◌, map}
use Prim.Native.Nat.{ℕ, ◌+◌, ◌-◌, ◌≤◌, min}
use native.Mathlib.Omega.{arith}
use native.Mathlib.Nat.{add-zero}
use lib.ListN.{length, take}
use Rattle.bits.specs.Answer.{All}
use Rattle.event_log.specs.Entry.{begin_packet}
use Rattle.machine.specs.declared.Machine.{Machine}
use Rattle.machine.specs.Events.{State, run}
use Rattle.machine.specs.Step.{state_of}
use Rattle.machine.specs.Run.{shifted}
use Rattle.machine.proofs.Theorems.{run-shift}
use Rattle.units.specs.Units.{Standing, gather_all, answers, read_at, bytes_at, bytes_at_all, unit_bytes, last_event, GatheringStands, Taken, Open}
use Rattle.gather.proofs.Theorems.{own_payload}
use Rattle.units.proofs.Theorems.{gather_append, taken-append, gathering-open}
use Rattle.writer.specs.declared.Route.{Route}
use Rattle.writer.specs.declared.Unit.{Unit}
use Rattle.writer.specs.Unit.{data_of, count_of}
use Rattle.writer.specs.Packets.{header_image, packets_of}
use Rattle.capacity.specs.Accepted.{PacketsRead, HeaderRead}
use Rattle.capacity.specs.Demand.{Permitted, Ready, at_start, end_of, continues_of, events_written, events_logged, Strict}
use Rattle.capacity.proofs.Permits.{route-fits, unit-fits}
use Rattle.capacity.proofs.HeaderBack.{length_back_lem}
use Rattle.capacity.proofs.Written.{written_count, all-packets, stream-length, stream_takes, unit-run, whole, first-is, unit-gives}
use Rattle.capacity.proofs.Written.{unit-segments, unit-pids, unit-counters}
use Rattle.capacity.proofs.Accepted.{read-carried, header_read}
use Rattle.capacity.proofs.Gathered.{continues-kind, continues-inside, part-inside, opened-taken, long_enough}

module _ (r : Route) (u : Unit) (payload : List ℕ) (ok : Permitted r u (length payload)) where
  pub permitted_written : (s : State) → Ready r s → Strict r u payload s (packets_of r u payload)
  permitted_written s f =
      let n = length payload in
      let k = sym (written_count r u payload) in
      record {
        ready = f;
        pids = unit-pids r u payload ok;
        counters = unit-counters r u payload ok;
        events = unit-run r u payload ok s f ∙ ap (λ (m : ℕ). events_written s m (9 + data_of u + n)) k;
        delivers = record {
          packets = all-packets r u payload;
          segment-of = whole r u payload ok;
          one = unit-segments r u payload ok s f;
          gives = unit-gives r u payload ok;
        };
        stated = rw (first-is r u payload ok) (length_back_lem u n (unit-fits r u n ok) (take (175 - data_of u) payload));
      }

  -- the same with the machine's own index
  pub permitted-events : (m : Machine) → Ready r (state_of m)
      → run m.taken (state_of m) (packets_of r u payload) ≡ events_logged u (length payload) m
  permitted-events m f =
      let ps = packets_of r u payload in
      ap (λ (i : ℕ). run i (state_of m) ps) (sym (add-zero m.taken))
      ∙ (run-shift m.taken 0 (state_of m) ps ∙ ap (map (shifted m.taken)) (unit-run r u payload ok (state_of m) f))

  pub permitted-accepted : PacketsRead true r.pid r.counter (9 + data_of u + length payload) (packets_of r u payload)
  unfolding packets_of
  permitted-accepted =
      let way = route-fits r u (length payload) ok in
      let xs = header_image u (length payload) ++ payload in
      let k = count_of u (length payload) in
      rw (← stream-length r u payload ok)
      (read-carried k true r.pid r.counter xs (omega (arith, way.pid_high)) way.counter-fits (stream_takes r u payload ok))

  pub permitted-header : let begin = end_of begin_packet 0 (min 184 (9 + data_of u + length payload)) in
      HeaderRead u (length payload) (bytes_at (packets_of r u payload) begin)
  permitted-header =
      rw (first-is r u payload ok) (header_read u (length payload) (unit-fits r u (length payload) ok) (take (175 - data_of u) payload))

  pub permitted-gathered : (s : State) (t : Standing) → Ready r s → GatheringStands t → length payload ≤ length t.store
      → let ps = packets_of r u payload in
      let cs = continues_of 1 (count_of u (length payload) - 1) (9 + data_of u + length payload - 184) in
      let b = end_of begin_packet 0 (min 184 (9 + data_of u + length payload)) in
      All Taken (answers ps t (run 0 s ps))
      × Open payload (length t.store) (gather_all ps t (run 0 s ps))
      × (read_at ps (gather_all ps t (run 0 s ps)) (last_event b cs) ≡ payload)
  unfolding events_written unit_bytes
  permitted-gathered s t f good room =
      let ps = packets_of r u payload in
      let n = length payload in
      let m = 9 + data_of u + n in
      let k = count_of u n in
      let b = end_of begin_packet 0 (min 184 m) in
      let cs = continues_of 1 (k - 1) (m - 184) in
      let long : 1 + (k - 1) ≤ length ps = long_enough r u payload in
      let all = all-packets r u payload in
      let es = at_start s 0 in
      let o = opened-taken ps all t good (omega arith) s in
      let t₁ = gather_all ps t es in
      let e : run 0 s ps ≡ es ++ (b ∷ cs) = unit-run r u payload ok s f in
      let q : unit_bytes ps b cs ≡ payload
      = ap (λ (x : List ℕ). x ++ bytes_at_all ps cs) (own_payload (bytes_at ps b)) ∙ (unit-gives r u payload ok).payload-joined in
      let h = ap length q in
      let kinds = continues-kind 1 (k - 1) (m - 184) in
      let inside = continues-inside ps 1 (k - 1) (m - 184) long in
      let w = gathering-open ps all t₁ o.1 b cs refl (omega arith, part-inside m) kinds inside (omega (arith, o.2)) in
      rw (e, gather_append ps t es (b ∷ cs))
      (taken-append ps t es (b ∷ cs) o.0 w.0, (rw (q, o.2) at w.1), w.2 ∙ q)
