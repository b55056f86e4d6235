-- The standard mode's continuity by the packets alone, with no state: a second definition, for a theorem that both agree; and words for
-- theorems about both modes. A history is the packets that were taken, the newest first.
use Rattle.std.specs.Prelude.{◌≡◌, Bool, true, false, List, [], ◌∷◌, ℕ, suc, eqb, None}
use Rattle.bits.specs.Answer.{pick}
use Rattle.control.specs.Control.{follows}
use Rattle.packet.specs.Packet.{start_flag, counter_field, payload_flag}
use Rattle.event_log.specs.declared.Event.{Event}
use Rattle.event_log.specs.Entry.{start_stream}
use Rattle.machine.specs.declared.Mode.{Mode}
use Rattle.machine.specs.declared.Mode.TheVariants.{Standard}
use Rattle.machine.specs.declared.Phase.TheVariants.{Begin}
use Rattle.machine.specs.declared.Repeat.TheVariants.{Barred}
use Rattle.machine.specs.declared.Continuity.{Continuity}
use Rattle.machine.specs.declared.Continuity.TheVariants.{GoesOn, Repeats, Breaks}
use Rattle.machine.specs.Events.{State, state, discontinuity, continuity, calls, is_begin, next}

-- before the first packet of a stream
abbrev pub first : Mode → State
first mo = state mo Begin None Barred false

-- q after p: with the payload flag the counter follows, without it is equal
abbrev pub in_order : List ℕ → List ℕ → Bool
in_order p q = pick (payload_flag q) (follows (counter_field q) (counter_field p)) (eqb (counter_field q) (counter_field p))

-- q has the counter of p, both with the payload flag
abbrev pub copies : List ℕ → List ℕ → Bool
copies p q = pick (payload_flag p) (pick (payload_flag q) (eqb (counter_field q) (counter_field p)) false) false

abbrev pub is_dropped : Continuity → Bool
is_dropped GoesOn = false
is_dropped Repeats = true
is_dropped Breaks = false

-- THE STANDARD'S CONTINUITY of the newest packet: the first goes on, and so does one with the discontinuity bit or in order; one with the
-- counter of the one just before, both with the payload flag, is dropped, but where that one was dropped itself; anything else is a break
unfoldable pub standardly : List (List ℕ) → Continuity
standardly [] = GoesOn
standardly (q ∷ []) = GoesOn
standardly (q ∷ p ∷ ps) =
    pick (discontinuity q) GoesOn
    (pick (in_order p q) GoesOn
    (pick (copies p q) (pick (is_dropped (standardly (p ∷ ps))) Breaks Repeats)
    Breaks))

-- the state of the standard mode after a history
unfoldable pub state_at : List (List ℕ) → State
state_at [] = first Standard
state_at (p ∷ ps) = next (state_at ps) p

-- the continuity of each packet of a list, from a state on
unfoldable pub continuities : State → List (List ℕ) → List Continuity
continuities s [] = []
continuities s (p ∷ ps) = continuity s p ∷ continuities (next s p) ps

-- the place in a list of the first packet that is not dropped and has the start flag or is a break, the list's first being the i-th: none or
-- one. By the states on the way; and by the packets alone, qs being those before the list
unfoldable pub first_call : ℕ → State → List (List ℕ) → List ℕ
first_call i s [] = []
first_call i s (p ∷ ps) = pick (calls (continuity s p) (start_flag p)) (i ∷ []) (first_call (suc i) (next s p) ps)

unfoldable pub first_called : ℕ → List (List ℕ) → List (List ℕ) → List ℕ
first_called i qs [] = []
first_called i qs (p ∷ ps) = pick (calls (standardly (p ∷ qs)) (start_flag p)) (i ∷ []) (first_called (suc i) (p ∷ qs) ps)

-- no event, or StartStream first
abbrev pub StartsFirst : List Event → Type 0
StartsFirst [] = Unit {0}
StartsFirst (e ∷ es) = e.kind ≡ start_stream

-- the packets of the StartStreams of a list of events; and the list without them
unfoldable pub starts : List Event → List ℕ
starts [] = []
starts (e ∷ es) = pick (eqb e.kind start_stream) (e.index ∷ starts es) (starts es)

unfoldable pub others : List Event → List Event
others [] = []
others (e ∷ es) = pick (eqb e.kind start_stream) (others es) (e ∷ others es)

-- no packet breaks while the phase is Begin: before the first with the start flag
abbrev pub StartsUnbroken : State → List (List ℕ) → Type 0
StartsUnbroken s [] = Unit {0}
StartsUnbroken s (p ∷ ps) = (continuity s p ≡ Breaks → is_begin s.phase ≡ false) × StartsUnbroken (next s p) ps

-- packets with no discontinuity bit, none of which has the counter of the one just before it, both with the payload flag
abbrev pub NoRepeats : List (List ℕ) → Type 0
NoRepeats [] = Unit {0}
NoRepeats (p ∷ []) = discontinuity p ≡ false
NoRepeats (p ∷ q ∷ ps) = (discontinuity p ≡ false) × (copies p q ≡ false) × NoRepeats (q ∷ ps)
