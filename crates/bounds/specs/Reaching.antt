-- Packets that give as many events as packets can: every one goes on with the one before it.
use Rattle.control.specs.declared.ContinuityCounter.{ContinuityCounter}
use Rattle.std.specs.Prelude.{◌≡◌, Bool, true, false, List, [], ◌∷◌, ℕ, zero, suc, ◌+◌, ◌-◌, ◌*◌, ◌%◌, ◌≤◌, length, replicate, Option, None, Some}
use Rattle.bits.specs.Answer.{truth, All}
use Rattle.bits.specs.Pack.{Bytes}
use Rattle.machine.specs.declared.Mode.TheVariants.{Standard}
use Rattle.machine.specs.declared.Phase.TheVariants.{Begin}
use Rattle.machine.specs.declared.Repeat.TheVariants.{Open}
use Rattle.machine.specs.declared.Machine.{Machine}
use Rattle.machine.specs.Events.{as_counter, State, events_of, next, run}
use Rattle.machine.specs.Step.{machine}
use Rattle.machine.specs.Run.{IsPacket, start_flags}

-- a packet of PID 256 with 184 bytes of payload, which begin with the header of an unbounded video unit; its counter is c modulo 16
unfoldable pub eventful : Bool → ℕ → List ℕ
eventful start c =
    0x47 ∷ (0x40 * truth start + 1) ∷ 0 ∷ (0x10 + c % 16)
    ∷ 0 ∷ 0 ∷ 1 ∷ 0xE0 ∷ 0 ∷ 0 ∷ 0x80 ∷ 0 ∷ 0 ∷ replicate 175 0xFF

-- s packets with the start flag, then n without it, the counters running from c on
unfoldable pub reaching : ℕ → ℕ → ℕ → List (List ℕ)
reaching zero zero c = []
reaching zero (suc n) c = eventful false c ∷ reaching zero n (suc c)
reaching (suc s) n c = eventful true c ∷ reaching s n (suc c)

-- p packets, s of them with the start flag: from a fresh state they give p + s events
abbrev pub inputs : ℕ → ℕ → List (List ℕ)
inputs s p = reaching s (p - s) 0

-- the same after a last counter: the first of them is a break, for its counter is the next but one. From a state in which `more` allows one
-- entry more they give p + s + 1 events; where there is no last counter the first of them ends a unit
abbrev pub breaking : Option ContinuityCounter → ℕ
breaking None = 0
breaking (Some c) = c.val + 2

abbrev pub late : Option ContinuityCounter → ℕ → ℕ → List (List ℕ)
late la s p = reaching s (p - s) (breaking la)

-- such a state, which one packet leaves: the standard mode after a packet with counter 5, a payload and no start flag
abbrev pub waiting : Machine
waiting = machine Standard Begin (Some (as_counter 5)) Open false 1 0

-- each packet has an event
abbrev pub Speak : ℕ → State → List (List ℕ) → Type 0
Speak i from [] = Unit {0}
Speak i from (p ∷ ps) = (1 ≤ length (events_of i from p)) × Speak (suc i) (next from p) ps

-- p packets of 188 bytes with sync, s of them with the start flag, give n events from a state on, and each at least one
pub record Reaches (from : State) (i p s n : ℕ) (ps : List (List ℕ)) : Type 0 where
  pub packets : length ps ≡ p
  pub flagged : start_flags ps ≡ s
  pub domain : All IsPacket ps
  pub bytes : All Bytes ps
  pub events : length (run i from ps) ≡ n
  pub each : Speak i from ps
