-- How long a log must be: an entry for each packet and one for each start flag, and in some states of the standard mode one more.
use Rattle.control.specs.declared.ContinuityCounter.{ContinuityCounter}
use Rattle.std.specs.Prelude.{◌≡◌, Bool, true, false, List, [], ◌∷◌, ℕ, ◌+◌, ◌*◌, length, get_or, Option, None, Some}
use Rattle.bits.specs.Numbers.{done, log_full}
use Rattle.bits.specs.Pack.{flat}
use Rattle.machine.specs.declared.Mode.{Mode}
use Rattle.machine.specs.declared.Mode.TheVariants.{Crate, Standard}
use Rattle.machine.specs.declared.Phase.{Phase}
use Rattle.machine.specs.declared.Phase.TheVariants.{Begin, Started, IgnoreRest}
use Rattle.machine.specs.declared.Machine.{Machine}
use Rattle.machine.specs.Events.{State}
use Rattle.machine.specs.Step.{step_of, log_of}
use Rattle.machine.specs.Run.{taken_of, report_of, start_flags}

-- THE BYTES OF A LOG for p packets, s of them with the start flag: 8 for each
abbrev pub log_bytes : ℕ → ℕ → ℕ
log_bytes p s = 8 * (p + s)

-- ONE ENTRY MORE, where StartStream may come beside two other events: in the standard mode, where the stream was not announced and the next
-- packet can be a break or end a unit. The first packet of a stream can do neither
abbrev pub in_unit : Phase → ℕ
in_unit Begin = 0
in_unit Started = 1
in_unit IgnoreRest = 0

abbrev pub more : Mode → Bool → Option ContinuityCounter → Phase → ℕ
more Crate announced la ph = 0
more Standard true la ph = 0
more Standard false None ph = in_unit ph
more Standard false (Some c) ph = 1

abbrev pub more_in : State → ℕ
more_in s = more s.mode s.announced s.last s.phase

-- the bytes for a list of packets from a state on
abbrev pub bytes_for : State → List (List ℕ) → ℕ
bytes_for s ps = log_bytes (length ps) (start_flags ps) + 8 * more_in s

-- the numbers that steps answer, one for each packet: a packet that is refused changes nothing, and the next one is tried
abbrev pub answers_of : Machine → List (List ℕ) → List ℕ → List ℕ
answers_of m [] l = []
answers_of m (p ∷ ps) l = (step_of m p l).number ∷ answers_of (step_of m p l).machine ps (log_of m p l)

abbrev pub NotFull : ℕ → Type 0
NotFull n = n ≡ log_full → ⊥

-- the log is too short for the packets: a run over their bytes ends with 15, and the step after those that are taken answers 15
pub record Full (m : Machine) (ps : List (List ℕ)) (l : List ℕ) : Type 0 where
  pub accepted : (report_of m (flat ps) l).number ≡ done
  pub ended : (report_of m (flat ps) l).ended ≡ log_full
  pub step : get_or (answers_of m ps l) (taken_of m ps l) done ≡ log_full
