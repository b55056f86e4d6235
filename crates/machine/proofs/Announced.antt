-- In the standard mode every stream is announced: StartStream comes with the first packet that is not dropped and has the start flag or is a
-- break, precedes its other events, and is the first event from a fresh state.
-- Assumes nothing.
use mathlib.Core.Path.{◌≡◌, refl, sym, ap, ap₂, ◌∙◌}
use mathlib.Core.Bool.{Bool, true, false, ◌||◌}
use mathlib.Core.List.{List, [], ◌∷◌, ◌++◌}
use Prim.Native.Nat.{ℕ, suc}
use Rattle.bits.specs.Answer.{pick}
use Rattle.bits.proofs.Bools.{false_true}
use Rattle.packet.specs.Packet.{start_flag}
use Rattle.event_log.specs.Entry.{start_stream}
use Rattle.machine.specs.declared.Mode.TheVariants.{Standard}
use Rattle.machine.specs.declared.Phase.{Phase}
use Rattle.machine.specs.declared.Phase.TheVariants.{Begin, Started, IgnoreRest}
use Rattle.machine.specs.declared.Continuity.{Continuity}
use Rattle.machine.specs.declared.Continuity.TheVariants.{GoesOn, Repeats, Breaks}
use Rattle.machine.specs.Events.{State, event_alone, continuity, calls, announces, announcement, continued}
use Rattle.machine.specs.Events.{events_by, events_of, next, run}
use Rattle.machine.specs.History.{first, state_at, starts, first_call, first_called, StartsFirst}
use Rattle.machine.proofs.Theorems.{happened, events-are, starts-join, event-starts, phase_then, phase-then}
use Rattle.machine.proofs.History.{mode-stays, mode-at, standard-is}

-- ---- which packets give StartStream

starts_by : (i : ℕ) (s : State) (p : List ℕ) (b : Bool) → announces s p ≡ b → starts (events_of i s p) ≡ pick b (i ∷ []) []
starts_by i s p b h = event-starts i s p ∙ ap (λ (x : Bool). pick x (i ∷ []) []) h

-- ---- .. in the standard mode

module _ (s : State) (p : List ℕ) (m : s.mode ≡ Standard) where
  abbrev call : Bool
  call = calls (continuity s p) (start_flag p)

  called : s.announced ≡ false → announces s p ≡ call
  unfolding announces
  called a = rw (m, a)

  silent : s.announced ≡ true → announces s p ≡ false
  unfolding announces
  silent a = rw (m, a)

  next-told : (b : Bool) → announces s p ≡ b → (next s p).announced ≡ (s.announced || b)
  unfolding next
  next-told b h = ap (λ (x : Bool). s.announced || x) h

  -- IT PRECEDES THE PACKET'S OTHER EVENTS
  pub announced-first : (i : ℕ) → s.announced ≡ false → call ≡ true → events_of i s p ≡ event_alone start_stream i ∷ events_by (continuity s p) i s.phase p
  unfolding announcement events_of
  announced-first i a h = rw (called a ∙ h)

-- NEVER AGAIN, where the stream was announced
pub announced-silent : (ps : List (List ℕ)) (i : ℕ) (s : State) → s.mode ≡ Standard → s.announced ≡ true → starts (run i s ps) ≡ []
unfolding run starts
announced-silent [] i s m a = refl
announced-silent (p ∷ ps) i s m a =
    starts-join (events_of i s p) _
    ∙ ap₂ (λ (x y : List ℕ). x ++ y) (starts_by i s p false (silent s p m a))
    (announced-silent ps (suc i) (next s p) (mode-stays s p ∙ m) (next-told s p m false (silent s p m a) ∙ rw a))

-- one packet, and then the others
announced-next : (p : List ℕ) (ps : List (List ℕ)) (i : ℕ) (s : State) (later : List ℕ) → s.mode ≡ Standard → s.announced ≡ false
    → ((next s p).announced ≡ false → starts (run (suc i) (next s p) ps) ≡ later)
    → starts (run i s (p ∷ ps)) ≡ pick (calls (continuity s p) (start_flag p)) (i ∷ []) later
unfolding run
announced-next p ps i s later m a h = starts-join (events_of i s p) _ ∙ go (call s p m) refl
  where
    go : (b : Bool) → call s p m ≡ b → starts (events_of i s p) ++ starts (run (suc i) (next s p) ps) ≡ pick b (i ∷ []) later
    go true k =
        let e = called s p m a ∙ k in
        ap₂ (λ (x y : List ℕ). x ++ y) (starts_by i s p true e)
        (announced-silent ps (suc i) (next s p) (mode-stays s p ∙ m) (next-told s p m true e ∙ rw a))
    go false k =
        let e = called s p m a ∙ k in
        ap₂ (λ (x y : List ℕ). x ++ y) (starts_by i s p false e) (h (next-told s p m false e ∙ rw a))

-- ELSE WITH THE FIRST PACKET THAT IS NOT DROPPED AND HAS THE START FLAG OR IS A BREAK, and with no other, from every state
pub announced-once : (ps : List (List ℕ)) (i : ℕ) (s : State) → s.mode ≡ Standard → s.announced ≡ false → starts (run i s ps) ≡ first_call i s ps
unfolding run starts first_call
announced-once [] i s m a = refl
announced-once (p ∷ ps) i s m a =
    announced-next p ps i s (first_call (suc i) (next s p) ps) m a (announced-once ps (suc i) (next s p) (mode-stays s p ∙ m))

-- .. from a fresh state by the packets alone
announced-after : (ps qs : List (List ℕ)) (i : ℕ) → (state_at qs).announced ≡ false → starts (run i (state_at qs) ps) ≡ first_called i qs ps
unfolding run starts first_called state_at
announced-after [] qs i a = refl
announced-after (p ∷ ps) qs i a =
    announced-next p ps i (state_at qs) (first_called (suc i) (p ∷ qs) ps) (mode-at qs) a (announced-after ps (p ∷ qs) (suc i))
    ∙ ap (λ (c : Continuity). pick (calls c (start_flag p)) (i ∷ []) (first_called (suc i) (p ∷ qs) ps)) (standard-is qs p)

pub announced-is : (i : ℕ) (ps : List (List ℕ)) → starts (run i (first Standard) ps) ≡ first_called i [] ps
unfolding state_at
announced-is i ps = announced-after ps [] i refl

-- a break that comes first is announced too: what the crate's mode loses
pub break-announces : (i : ℕ) (s : State) (p : List ℕ) (ps : List (List ℕ)) → s.mode ≡ Standard → s.announced ≡ false → continuity s p ≡ Breaks
    → starts (run i s (p ∷ ps)) ≡ i ∷ []
unfolding first_call
break-announces i s p ps m a h = announced-once (p ∷ ps) i s m a ∙ rw h

-- ---- it is the first event

abbrev pub is_started : Phase → Bool
is_started Begin = false
is_started Started = true
is_started IgnoreRest = false

idle : (ph : Phase) (i : ℕ) (p : List ℕ) → is_started ph ≡ false → continued ph i p ≡ []
unfolding continued
idle Begin i p h = refl
idle Started i p h = false_true (sym h)
idle IgnoreRest i p h = refl

-- a packet that does not call for it, where no unit is open, gives no event and opens none
quiet : (c : Continuity) (s : Bool) (ph : Phase) (i : ℕ) (p : List ℕ) → calls c s ≡ false → is_started ph ≡ false
    → (happened c s ph i p ≡ []) × (is_started (phase_then c s ph) ≡ false)
quiet GoesOn true ph i p h f = false_true (sym h)
quiet GoesOn false ph i p h f = (idle ph i p f, f)
quiet Repeats s ph i p h f = (refl, f)
quiet Breaks s ph i p h f = false_true (sym h)

-- FROM EVERY STATE WITH NO UNIT OPEN, where the stream was not announced
pub start_first : (ps : List (List ℕ)) (i : ℕ) (s : State) → s.mode ≡ Standard → s.announced ≡ false → is_started s.phase ≡ false
    → StartsFirst (run i s ps)
unfolding run announcement
start_first [] i s m a f = tt
start_first (p ∷ ps) i s m a f = go (call s p m) refl (start_first ps (suc i) (next s p) (mode-stays s p ∙ m))
  where
    go : (b : Bool) → call s p m ≡ b → ((next s p).announced ≡ false → is_started (next s p).phase ≡ false → StartsFirst (run (suc i) (next s p) ps))
        → StartsFirst (events_of i s p ++ run (suc i) (next s p) ps)
    go true h ih = rw (announced-first s p m i a h)
    go false h ih =
        let e = called s p m a ∙ h in
        let q = quiet (continuity s p) (start_flag p) s.phase i p h f in
        rw (events-are i s p, e, q.0) (ih (next-told s p m false e ∙ rw a) (ap is_started (phase-then s p) ∙ q.1))

-- .. so from a fresh one
pub first-first : (i : ℕ) (ps : List (List ℕ)) → StartsFirst (run i (first Standard) ps)
first-first i ps = start_first ps i (first Standard) refl refl refl

-- ---- it is remembered in both modes, so that a host may change the mode between packets

pub remembered : (s : State) (p : List ℕ) → announces s p ≡ true → (next s p).announced ≡ true
unfolding next
remembered s p h = rw h (go s.announced)
  where
    go : (b : Bool) → (b || true) ≡ true
    go true = refl
    go false = refl
