-- The events of a unit that is written, as calls of the gathering store.
-- Assumes nothing.
use mathlib.Core.Path.{◌≡◌, refl, ◌∙◌}
use mathlib.Core.Bool.{Bool, true, false}
use mathlib.Core.List.{List, [], ◌∷◌}
use Prim.Native.Nat.{ℕ, zero, suc, ◌+◌, ◌-◌, ◌≤◌, ◌<◌, min}
use native.Mathlib.Omega.{arith}
use lib.ListN.{length}
use Rattle.bits.specs.Answer.{All}
use Rattle.event_log.specs.declared.Event.{Event}
use Rattle.machine.specs.declared.Phase.{Phase}
use Rattle.machine.specs.declared.Phase.TheVariants.{Begin, Started, IgnoreRest}
use Rattle.machine.specs.declared.Continuity.TheVariants.{GoesOn}
use Rattle.machine.specs.Events.{State, event_alone, due, announcement, ended}
use Rattle.machine.specs.Run.{IsPacket}
use Rattle.units.specs.Units.{Standing, gather_all, answers, Inside, GatheringStands, Kind, Taken}
use Rattle.units.proofs.Theorems.{gather_append, taken-append, start-leaves, end_keeps, all-good}
use Rattle.writer.specs.declared.Route.{Route}
use Rattle.writer.specs.declared.Unit.{Unit}
use Rattle.writer.specs.Unit.{count_of}
use Rattle.writer.specs.Packets.{packets_of}
use Rattle.capacity.specs.Demand.{at_start, continues_of}
use Rattle.capacity.proofs.Written.{written_count}

pub continues-kind : (i k m : ℕ) → All (Kind 3) (continues_of i k m)
unfolding continues_of
continues-kind i zero m = tt
continues-kind i (suc k) m = (refl, continues-kind (suc i) k (m - 184))

pub part-inside : (m : ℕ) → 188 - min 184 m + min 184 m ≤ 188
part-inside m = omega arith

pub continues-inside : (ps : List (List ℕ)) (i k m : ℕ) → i + k ≤ length ps → All (Inside ps) (continues_of i k m)
unfolding continues_of
continues-inside ps i zero m h = tt
continues-inside ps i (suc k) m h = ((omega arith, part-inside m), continues-inside ps (suc i) k (m - 184) (omega arith))

module _ (ps : List (List ℕ)) (all : All IsPacket ps) (t : Standing) (ok : GatheringStands t) (some : 0 < length ps) where
  abbrev Passed : List Event → Type 0
  Passed es = All Taken (answers ps t es) × GatheringStands (gather_all ps t es) × (length (gather_all ps t es).store ≡ length t.store)

  announced-taken : (b : Bool) → Passed (announcement b 0)
  unfolding announcement
  announced-taken true =
      let i : Inside ps (event_alone 1 0) = (some, omega arith) in
      let a = start-leaves ps all t (event_alone 1 0) i refl ok in
      let g = all-good ps all t (event_alone 1 0 ∷ []) ((omega arith, omega arith), tt) (i, tt) ok in
      ((a.0, tt), g.0, g.1)
  announced-taken false = (tt, ok, refl)

  ended-taken : (f : Phase) → Passed (ended f 0)
  ended-taken Begin = (tt, ok, refl)
  ended-taken Started =
      let i : Inside ps (event_alone 4 0) = (some, omega arith) in
      let a = end_keeps ps all t (event_alone 4 0) i refl ok in
      let g = all-good ps all t (event_alone 4 0 ∷ []) ((omega arith, omega arith), tt) (i, tt) ok in
      ((a.0, tt), g.0, g.1)
  ended-taken IgnoreRest = (tt, ok, refl)

-- what the state gives before the begin is taken, and leaves a state that can be and the store's length
module _ (ps : List (List ℕ)) (all : All IsPacket ps) (t : Standing) (ok : GatheringStands t) (some : 0 < length ps) where
  pub opened-taken : (s : State) → Passed ps all t ok some (at_start s 0)
  unfolding at_start
  opened-taken s =
      let a = announcement (due s.mode GoesOn s.phase s.announced true) 0 in
      let e = ended s.phase 0 in
      let x = announced-taken ps all t ok some (due s.mode GoesOn s.phase s.announced true) in
      let y = ended-taken ps all (gather_all ps t a) x.1 some s.phase in
      rw (gather_append ps t a e) (taken-append ps t a e x.0 y.0, y.1, y.2 ∙ x.2)

pub long_enough : (r : Route) (u : Unit) (payload : List ℕ) → 1 + (count_of u (length payload) - 1) ≤ length (packets_of r u payload)
unfolding count_of
long_enough r u payload = omega (arith, written_count r u payload)
