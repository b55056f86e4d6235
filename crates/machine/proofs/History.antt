-- The state keeps what of the packets before counts: continuity in the standard mode is that of the packets alone. A packet that is sent
-- again is dropped once. Over packets with no repeat and no discontinuity bit both modes give the same events, but for StartStream.
-- Assumes nothing.
use mathlib.Core.Path.{◌≡◌, refl, sym, ap, ap₂, ◌∙◌}
use mathlib.Core.Bool.{Bool, true, false, not, ◌||◌}
use mathlib.Core.List.{List, [], ◌∷◌, ◌++◌}
use Prim.Native.Nat.{ℕ, suc}
use lib.Dec.{eqb}
use borrow.Author.Tests.{eq-eqb}
use Rattle.std.specs.Prelude.{Some, None}
use Rattle.bits.specs.Answer.{pick}
use Rattle.bits.proofs.Bools.{false_true}
use Rattle.control.specs.Control.{follows, compare}
use Rattle.control.proofs.Laws.{apart}
use Rattle.packet.specs.Packet.{start_flag, counter_field, payload_flag}
use Rattle.event_log.specs.declared.Event.{Event}
use Rattle.event_log.specs.Entry.{start_stream}
use Rattle.machine.specs.declared.Mode.{Mode}
use Rattle.machine.specs.declared.Mode.TheVariants.{Crate, Standard}
use Rattle.machine.specs.declared.Phase.{Phase}
use Rattle.machine.specs.declared.Repeat.{Repeat}
use Rattle.machine.specs.declared.Repeat.TheVariants.{Barred, Open, Spent}
use Rattle.machine.specs.declared.Continuity.{Continuity}
use Rattle.machine.specs.declared.Continuity.TheVariants.{GoesOn, Repeats, Breaks}
use Rattle.machine.specs.Events.{as_counter, State, judged, discontinuity, continuity_by, continuity}
use Rattle.machine.specs.Events.{is_begin, due, announces, announcement, events_by, events_of, phase_by, last_by, again_by, next, run}
use Rattle.machine.specs.History.{first, in_order, copies, is_dropped, standardly, state_at, others, StartsUnbroken, NoRepeats}
use Rattle.machine.proofs.Counters.{compared, on-first, repeat-last}
use Rattle.machine.proofs.Original.{crate-continuity}
use Rattle.machine.proofs.Theorems.{phase-then, phase_then}
use Rattle.machine.specs.Original.{continuous}

-- ---- what a state keeps of the packet just before

abbrev keeps : Continuity → Bool → Repeat
keeps GoesOn f = pick f Open Barred
keeps Repeats f = Spent
keeps Breaks f = pick f Open Barred

again-is : (s : State) (p : List ℕ) → (next s p).again ≡ keeps (continuity s p) (payload_flag p)
unfolding next
again-is s p = go (continuity s p)
  where
    go : (c : Continuity) → again_by c p ≡ keeps c (payload_flag p)
    go GoesOn = refl
    go Repeats = refl
    go Breaks = refl

pub last-is : (s : State) (p : List ℕ) → (next s p).last ≡ Some (as_counter (counter_field p))
unfolding next
last-is s p = go (continuity s p) refl
  where
    go : (c : Continuity) → continuity s p ≡ c → last_by c s.last p ≡ Some (as_counter (counter_field p))
    go GoesOn h = refl
    go Repeats h = repeat-last s.mode s.last s.again p h
    go Breaks h = refl

-- ---- both definitions

alike : (c : Continuity) (f g a b : Bool) → (a ≡ true → b ≡ false)
    → judged Standard (keeps c f) g (compared a b)
    ≡ pick (pick g a b) GoesOn (pick (pick f (pick g b false) false) (pick (is_dropped c) Breaks Repeats) Breaks)
alike c f true true b h = refl
alike GoesOn true true false true h = refl
alike GoesOn false true false true h = refl
alike Repeats true true false true h = refl
alike Repeats false true false true h = refl
alike Breaks true true false true h = refl
alike Breaks false true false true h = refl
alike c true true false false h = refl
alike c false true false false h = refl
alike c true false true b h = rw (h refl) refl
alike c false false true b h = rw (h refl) refl
alike c f false false true h = refl
alike c true false false false h = refl
alike c false false false false h = refl

by_two : (s : State) (p q : List ℕ) (c : Continuity) → s.mode ≡ Standard → s.last ≡ Some (as_counter (counter_field p)) → s.again ≡ keeps c (payload_flag p)
    → continuity s q
    ≡ pick (discontinuity q) GoesOn (pick (in_order p q) GoesOn (pick (copies p q) (pick (is_dropped c) Breaks Repeats) Breaks))
unfolding continuity_by compare
by_two s p q c m l r =
    let n = counter_field p in
    let k = counter_field q in
    rw (m, l, r) (ap (pick (discontinuity q) GoesOn) (alike c (payload_flag p) (payload_flag q) (follows k n) (eqb k n) (apart k n)))

pub mode-stays : (s : State) (p : List ℕ) → (next s p).mode ≡ s.mode
unfolding next
mode-stays s p = refl

-- THE CONTINUITY OF A PACKET AFTER ANOTHER, in the standard mode, by the two and by what the first one was
after_one : (s : State) (p q : List ℕ) → s.mode ≡ Standard → continuity (next s p) q
    ≡ pick (discontinuity q) GoesOn (pick (in_order p q) GoesOn (pick (copies p q) (pick (is_dropped (continuity s p)) Breaks Repeats) Breaks))
after_one s p q m = by_two (next s p) p q (continuity s p) (mode-stays s p ∙ m) (last-is s p) (again-is s p)

pub mode-at : (ps : List (List ℕ)) → (state_at ps).mode ≡ Standard
unfolding state_at
mode-at [] = refl
mode-at (p ∷ ps) = mode-stays (state_at ps) p ∙ mode-at ps

-- CONTINUITY IN THE STANDARD MODE, from the first packet of a stream on, IS THAT OF THE PACKETS ALONE
pub standard-is : (ps : List (List ℕ)) (q : List ℕ) → continuity (state_at ps) q ≡ standardly (q ∷ ps)
unfolding state_at standardly
standard-is [] q = on-first Standard None Barred q refl
standard-is (p ∷ ps) q =
    after_one (state_at ps) p q (mode-at ps)
    ∙ ap (λ (c : Continuity). pick (discontinuity q) GoesOn (pick (in_order p q) GoesOn (pick (copies p q) (pick (is_dropped c) Breaks Repeats) Breaks))) (standard-is ps p)

-- ---- a packet that is sent again, other bytes not compared

module _ (s : State) (p q : List ℕ) (m : s.mode ≡ Standard) (f : payload_flag p ≡ true) (g : payload_flag q ≡ true) (e : counter_field q ≡ counter_field p)
    (d : discontinuity q ≡ false) where
  sent-again : continuity (next s p) q ≡ pick (is_dropped (continuity s p)) Breaks Repeats
  sent-again =
      let h : eqb (counter_field q) (counter_field p) ≡ true = eq-eqb (counter_field q) (counter_field p) e in
      let k : follows (counter_field q) (counter_field p) ≡ false = not-next (follows (counter_field q) (counter_field p)) refl h in
      after_one s p q m ∙ rw (d, f, g, h, k)
    where
      not-next : (b : Bool) → follows (counter_field q) (counter_field p) ≡ b → eqb (counter_field q) (counter_field p) ≡ true → b ≡ false
      not-next true z h = false_true (sym (apart (counter_field q) (counter_field p) z) ∙ h)
      not-next false z h = refl

  -- IS DROPPED where the one just before was not ..
  pub dropped_once : is_dropped (continuity s p) ≡ false → continuity (next s p) q ≡ Repeats
  dropped_once h = sent-again ∙ rw h

  -- .. AND IS A BREAK where it was
  pub not-twice : continuity s p ≡ Repeats → continuity (next s p) q ≡ Breaks
  not-twice h = sent-again ∙ rw h

-- ---- both modes

-- a counter that is not the last one's again is judged alike
same-judged : (r : Repeat) (f g a b : Bool) → pick f (pick g b false) false ≡ false
    → judged Crate r g (compared a b) ≡ judged Standard (pick f Open Barred) g (compared a b)
same-judged r f true true b h = refl
same-judged r true true false true h = false_true (sym h)
same-judged r false true false true h = refl
same-judged r f true false false h = refl
same-judged r f false true b h = refl
same-judged r f false false true h = refl
same-judged r f false false false h = refl

module _ (p q : List ℕ) (d : discontinuity q ≡ false) (h : copies p q ≡ false) where
  same-continuity : (s t : State) → s.mode ≡ Crate → t.mode ≡ Standard → s.last ≡ Some (as_counter (counter_field p)) → t.last ≡ Some (as_counter (counter_field p))
      → t.again ≡ pick (payload_flag p) Open Barred → continuity s q ≡ continuity t q
  unfolding continuity_by compare
  same-continuity s t m n k l r =
      rw (m, n, k, l, r, d)
      (same-judged s.again (payload_flag p) (payload_flag q) (follows (counter_field q) (counter_field p)) (eqb (counter_field q) (counter_field p)) h)

-- the crate's mode drops nothing
crate_drops-none : (s : State) (p : List ℕ) → s.mode ≡ Crate → is_dropped (continuity s p) ≡ false
crate_drops-none s p m =
    ap (λ (x : Mode). is_dropped (continuity_by x s.last s.again p)) m
    ∙ (ap is_dropped (crate-continuity s.phase s.last s.again s.announced p) ∙ go (continuous s.last p))
  where
    go : (b : Bool) → is_dropped (pick b GoesOn Breaks) ≡ false
    go true = refl
    go false = refl

kept-open : (c : Continuity) (f : Bool) → is_dropped c ≡ false → keeps c f ≡ pick f Open Barred
kept-open GoesOn f h = refl
kept-open Repeats f h = false_true (sym h)
kept-open Breaks f h = refl

-- a packet of a list that has no repeats
clear : (p : List ℕ) (ps : List (List ℕ)) → NoRepeats (p ∷ ps) → discontinuity p ≡ false
clear p [] h = h
clear p (q ∷ ps) h = h.0

module _ (s t : State) (p : List ℕ) (f : s.phase ≡ t.phase) (e : continuity s p ≡ continuity t p) where
  same_by : (i : ℕ) → events_by (continuity s p) i s.phase p ≡ events_by (continuity t p) i t.phase p
  same_by i = ap₂ (λ (c : Continuity) (ph : Phase). events_by c i ph p) e f

  same-phase : (next s p).phase ≡ (next t p).phase
  unfolding next
  same-phase = ap₂ (λ (c : Continuity) (ph : Phase). phase_by c ph p) e f

-- what the states after a packet that both judge alike keep for the next one
module _ (s t : State) (p q : List ℕ) (m : s.mode ≡ Crate) (n : t.mode ≡ Standard) (e : continuity s p ≡ continuity t p) (d : discontinuity q ≡ false)
    (h : copies p q ≡ false) where
  alike_next : continuity (next s p) q ≡ continuity (next t p) q
  alike_next =
      let u : is_dropped (continuity t p) ≡ false = ap is_dropped (sym e) ∙ crate_drops-none s p m in
      same-continuity p q d h (next s p) (next t p) (mode-stays s p ∙ m) (mode-stays t p ∙ n) (last-is s p) (last-is t p)
      (again-is t p ∙ kept-open (continuity t p) (payload_flag p) u)

-- ---- .. but for StartStream

others-append : (a b : List Event) → others (a ++ b) ≡ others a ++ others b
unfolding others
others-append [] b = refl
others-append (x ∷ a) b = rw (others-append a b) (sym (go (eqb x.kind start_stream)))
  where
    go : (t : Bool) → pick t (others a) (x ∷ others a) ++ others b ≡ pick t (others a ++ others b) (x ∷ (others a ++ others b))
    go true = refl
    go false = refl

others-event : (i : ℕ) (s : State) (p : List ℕ) → others (events_of i s p) ≡ others (events_by (continuity s p) i s.phase p)
unfolding events_of announcement others
others-event i s p = go (announces s p) (events_by (continuity s p) i s.phase p)
  where
    go : (b : Bool) (es : List Event) → others (announcement b i ++ es) ≡ others es
    go true es = refl
    go false es = refl

-- the first packet's events and then the others'
joined : (ps : List (List ℕ)) (p : List ℕ) (i : ℕ) (s t : State) → s.phase ≡ t.phase → continuity s p ≡ continuity t p
    → others (run (suc i) (next s p) ps) ≡ others (run (suc i) (next t p) ps) → others (run i s (p ∷ ps)) ≡ others (run i t (p ∷ ps))
unfolding run
joined ps p i s t f e h =
    others-append (events_of i s p) _
    ∙ (ap₂ (λ (x y : List Event). x ++ y) (others-event i s p ∙ (ap others (same_by s t p f e i) ∙ sym (others-event i t p))) h
    ∙ sym (others-append (events_of i t p) _))

-- from a first packet that both judge alike
agree-from : (ps : List (List ℕ)) (p : List ℕ) (i : ℕ) (s t : State) → s.mode ≡ Crate → t.mode ≡ Standard → s.phase ≡ t.phase
    → continuity s p ≡ continuity t p → NoRepeats (p ∷ ps) → others (run i s (p ∷ ps)) ≡ others (run i t (p ∷ ps))
unfolding run
agree-from [] p i s t m n f e w = joined [] p i s t f e refl
agree-from (q ∷ ps) p i s t m n f e w =
    joined (q ∷ ps) p i s t f e
    (agree-from ps q (suc i) (next s p) (next t p) (mode-stays s p ∙ m) (mode-stays t p ∙ n) (same-phase s t p f e)
    (alike_next s t p q m n e (clear q ps w.2) w.1) w.2)

first_alike : (s t : State) (p : List ℕ) → s.last ≡ None → t.last ≡ None → continuity s p ≡ continuity t p
first_alike s t p k l = on-first s.mode s.last s.again p k ∙ sym (on-first t.mode t.last t.again p l)

-- BOTH MODES GIVE THE SAME EVENTS, BUT FOR StartStream, over packets with no repeat and no discontinuity bit, from states with the same phase
-- and no last counter
pub modes_agree : (ps : List (List ℕ)) (i : ℕ) (s t : State) → s.mode ≡ Crate → t.mode ≡ Standard → s.phase ≡ t.phase
    → s.last ≡ None → t.last ≡ None → NoRepeats ps → others (run i s ps) ≡ others (run i t ps)
unfolding run
modes_agree [] i s t m n f k l w = refl
modes_agree (p ∷ ps) i s t m n f k l w = agree-from ps p i s t m n f (first_alike s t p k l) w

pub first-agree : (i : ℕ) (ps : List (List ℕ)) → NoRepeats ps → others (run i (first Crate) ps) ≡ others (run i (first Standard) ps)
first-agree i ps w = modes_agree ps i (first Crate) (first Standard) refl refl refl refl refl w

-- ---- .. and StartStream too, where no break comes before the first start flag

-- the phase is Begin exactly while the stream is not announced
abbrev Together : State → State → Type 0
Together s t = (s.phase ≡ t.phase) × (is_begin s.phase ≡ not t.announced)

same-due : (c : Continuity) (ph : Phase) (a b start : Bool) → is_begin ph ≡ not b → (c ≡ Breaks → is_begin ph ≡ false)
    → due Crate c ph a start ≡ due Standard c ph b start
same-due GoesOn ph a true true h k = h
same-due GoesOn ph a false true h k = h
same-due GoesOn ph a true false h k = refl
same-due GoesOn ph a false false h k = refl
same-due Repeats ph a true start h k = refl
same-due Repeats ph a false start h k = refl
same-due Breaks ph a true start h k = refl
same-due Breaks ph a false start h k = sym (sym h ∙ k refl)

still : (c : Continuity) (ph : Phase) (b start : Bool) → is_begin ph ≡ not b → is_begin (phase_then c start ph) ≡ not (b || due Standard c ph b start)
still GoesOn ph true true h = refl
still GoesOn ph false true h = refl
still GoesOn ph true false h = h
still GoesOn ph false false h = h
still Repeats ph true start h = h
still Repeats ph false start h = h
still Breaks ph true true h = refl
still Breaks ph true false h = refl
still Breaks ph false true h = refl
still Breaks ph false false h = refl

module _ (s t : State) (p : List ℕ) (m : s.mode ≡ Crate) (n : t.mode ≡ Standard) (g : Together s t) (e : continuity s p ≡ continuity t p) where
  due-after : due Standard (continuity s p) s.phase t.announced (start_flag p) ≡ announces t p
  unfolding announces
  due-after =
      ap₂ (λ (c : Continuity) (ph : Phase). due Standard c ph t.announced (start_flag p)) e g.0
      ∙ ap (λ (mo : Mode). due mo (continuity t p) t.phase t.announced (start_flag p)) (sym n)

  same-announced : (continuity s p ≡ Breaks → is_begin s.phase ≡ false) → announces s p ≡ announces t p
  unfolding announces
  same-announced b =
      ap (λ (mo : Mode). due mo (continuity s p) s.phase s.announced (start_flag p)) m
      ∙ (same-due (continuity s p) s.phase s.announced t.announced (start_flag p) g.1 b ∙ due-after)

  same-events : (i : ℕ) → (continuity s p ≡ Breaks → is_begin s.phase ≡ false) → events_of i s p ≡ events_of i t p
  unfolding events_of
  same-events i b = ap₂ (λ (x : Bool) (y : List Event). announcement x i ++ y) (same-announced b) (same_by s t p g.0 e i)

  together-next : Together (next s p) (next t p)
  unfolding next
  together-next = (
    same-phase s t p g.0 e,
    ap is_begin (phase-then s p)
        ∙ (still (continuity s p) s.phase t.announced (start_flag p) g.1 ∙ ap (λ (b : Bool). not (t.announced || b)) due-after),
  )

same_from : (ps : List (List ℕ)) (p : List ℕ) (i : ℕ) (s t : State) → s.mode ≡ Crate → t.mode ≡ Standard → Together s t
    → continuity s p ≡ continuity t p → NoRepeats (p ∷ ps) → StartsUnbroken s (p ∷ ps) → run i s (p ∷ ps) ≡ run i t (p ∷ ps)
unfolding run
same_from [] p i s t m n g e w b = ap (λ (x : List Event). x ++ []) (same-events s t p m n g e i b.0)
same_from (q ∷ ps) p i s t m n g e w b =
    ap₂ (λ (x y : List Event). x ++ y) (same-events s t p m n g e i b.0)
    (same_from ps q (suc i) (next s p) (next t p) (mode-stays s p ∙ m) (mode-stays t p ∙ n) (together-next s t p m n g e)
    (alike_next s t p q m n e (clear q ps w.2) w.1) w.2 b.1)

-- BOTH MODES GIVE THE SAME EVENTS from a fresh state over packets with no repeat, no discontinuity bit and no break before the first start flag
pub first-same : (i : ℕ) (ps : List (List ℕ)) → NoRepeats ps → StartsUnbroken (first Crate) ps → run i (first Crate) ps ≡ run i (first Standard) ps
unfolding run
first-same i [] w b = refl
first-same i (p ∷ ps) w b =
    same_from ps p i (first Crate) (first Standard) refl refl (refl, refl) (first_alike (first Crate) (first Standard) p refl refl) w b
