-- The crate's mode is the machine of the original, whatever may be repeated and whether the stream was announced or not.
-- Assumes nothing.
use mathlib.Core.Path.{◌≡◌, refl, ap, ap₂, ◌∙◌}
use mathlib.Core.Bool.{Bool, true, false, ◌||◌}
use mathlib.Core.List.{List, [], ◌∷◌, ◌++◌}
use Prim.Native.Nat.{ℕ, suc}
use Rattle.bits.specs.Answer.{pick}
use Rattle.packet.specs.Packet.{start_flag, payload_flag}
use Rattle.event_log.specs.declared.Event.{Event}
use Rattle.machine.specs.declared.Mode.TheVariants.{Crate}
use Rattle.machine.specs.declared.Phase.{Phase}
use Rattle.machine.specs.declared.Phase.TheVariants.{Begin, Started, IgnoreRest}
use Rattle.machine.specs.declared.Repeat.{Repeat}
use Rattle.machine.specs.declared.Repeat.TheVariants.{Open, Barred}
use Rattle.machine.specs.declared.Continuity.TheVariants.{GoesOn, Breaks}
use Rattle.machine.specs.Events.{Last, State, state, continuity, is_begin, due, announces, announcement, ended, begun, continued}
use Rattle.machine.specs.Events.{events_by, events_of, phase_by, last_by, again_by, next, run}
use Rattle.machine.specs.Original.{continuous, broken, settled, opened, original_rest, original_events, original_phase, original_last, original_run}
use Rattle.machine.proofs.Counters.{in_order_on, crate_breaks}

module _ (ph : Phase) (l : Last) (r : Repeat) (a : Bool) (p : List ℕ) where
  abbrev here : State
  here = state Crate ph l r a

  -- no packet is dropped
  pub crate-continuity : continuity here p ≡ pick (continuous l p) GoesOn Breaks
  crate-continuity = go (continuous l p) refl
    where
      go : (b : Bool) → continuous l p ≡ b → continuity here p ≡ pick b GoesOn Breaks
      go true h = in_order_on Crate l r p h
      go false h = crate_breaks l r p h

  by-test : (t : Bool) (i : ℕ) → announcement (due Crate (pick t GoesOn Breaks) ph a (start_flag p)) i ++ events_by (pick t GoesOn Breaks) i ph p
      ≡ broken t i ++ original_rest (settled t ph) i p
  unfolding announcement
  by-test true i = rest-is ph (start_flag p)
    where
      rest-is : (ph : Phase) (s : Bool) → announcement (pick s (is_begin ph) false) i ++ pick s (ended ph i ++ begun i p) (continued ph i p)
          ≡ pick s (opened ph i ++ begun i p) (continued ph i p)
      rest-is Begin true = refl
      rest-is Started true = refl
      rest-is IgnoreRest true = refl
      rest-is ph false = refl
  by-test false i = refl

  -- THE EVENTS, THE PHASE AND THE COUNTER ARE THE ORIGINAL'S
  pub crate-events : (i : ℕ) → events_of i here p ≡ original_events i ph l p
  unfolding events_of announces original_events
  crate-events i = rw crate-continuity (by-test (continuous l p) i)

  after_test : (t : Bool) → state Crate (phase_by (pick t GoesOn Breaks) ph p) (last_by (pick t GoesOn Breaks) l p) (again_by (pick t GoesOn Breaks) p)
      (a || announces here p)
      ≡ state Crate (pick (start_flag p) Started (settled t ph)) (original_last p) (pick (payload_flag p) Open Barred) (a || announces here p)
  after_test true = refl
  after_test false = refl

  pub crate-next : next here p ≡ state Crate (original_phase ph l p) (original_last p) (pick (payload_flag p) Open Barred) (a || announces here p)
  unfolding next original_phase
  crate-next = rw crate-continuity (after_test (continuous l p))

pub crate-run : (i : ℕ) (ph : Phase) (l : Last) (r : Repeat) (a : Bool) (ps : List (List ℕ)) → run i (state Crate ph l r a) ps ≡ original_run i ph l ps
unfolding run original_run
crate-run i ph l r a [] = refl
crate-run i ph l r a (p ∷ ps) =
    ap₂ (λ (x y : List Event). x ++ y) (crate-events ph l r a p i)
    (ap (λ (s : State). run (suc i) s ps) (crate-next ph l r a p)
    ∙ crate-run (suc i) (original_phase ph l p) (original_last p) (pick (payload_flag p) Open Barred) (a || announces (state Crate ph l r a) p) ps)
