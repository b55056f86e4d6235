-- The machine of the original, which has no mode: a phase, and the last counter or none. For a theorem that the crate's mode is this one.
use Rattle.std.specs.Prelude.{Bool, true, List, [], ◌∷◌, ◌++◌, ℕ, suc, eqb, Some, None}
use Rattle.bits.specs.Answer.{pick}
use Rattle.control.specs.Control.{follows}
use Rattle.packet.specs.Packet.{start_flag, counter_field, payload_flag}
use Rattle.event_log.specs.declared.Event.{Event}
use Rattle.event_log.specs.Entry.{start_stream, end_packet, continuity_error}
use Rattle.machine.specs.declared.Phase.{Phase}
use Rattle.machine.specs.declared.Phase.TheVariants.{Begin, Started, IgnoreRest}
use Rattle.machine.specs.Events.{Last, as_counter, event_alone, begun, continued}

-- with the payload flag the counter follows the last, without it is equal; none is always continuous
unfoldable pub continuous : Last → List ℕ → Bool
continuous None p = true
continuous (Some c) p = pick (payload_flag p) (follows (counter_field p) c.val) (eqb (counter_field p) c.val)

-- a break gives ContinuityError and sets IgnoreRest
abbrev pub broken : Bool → ℕ → List Event
broken c i = pick c [] (event_alone continuity_error i ∷ [])

abbrev pub settled : Bool → Phase → Phase
settled c ph = pick c ph IgnoreRest

-- on the start flag: Started gives EndPacket, Begin gives StartStream ..
abbrev pub opened : Phase → ℕ → List Event
opened Begin i = event_alone start_stream i ∷ []
opened Started i = event_alone end_packet i ∷ []
opened IgnoreRest i = []

-- .. and then the payload's event comes; without it, the payload's alone
abbrev pub original_rest : Phase → ℕ → List ℕ → List Event
original_rest ph i p = pick (start_flag p) (opened ph i ++ begun i p) (continued ph i p)

-- the events of a packet, as the i-th
unfoldable pub original_events : ℕ → Phase → Last → List ℕ → List Event
original_events i ph l p = broken (continuous l p) i ++ original_rest (settled (continuous l p) ph) i p

-- the phase after it, and the counter, which is stored
unfoldable pub original_phase : Phase → Last → List ℕ → Phase
original_phase ph l p = pick (start_flag p) Started (settled (continuous l p) ph)

abbrev pub original_last : List ℕ → Last
original_last p = Some (as_counter (counter_field p))

-- the events of a list of packets, of which the first is the i-th
unfoldable pub original_run : ℕ → Phase → Last → List (List ℕ) → List Event
original_run i ph l [] = []
original_run i ph l (p ∷ ps) = original_events i ph l p ++ original_run (suc i) (original_phase ph l p) (original_last p) ps
