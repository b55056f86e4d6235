-- Clock references, counters and control bytes that a host hands over as numbers.
use Rattle.std.specs.Prelude.{Bool, false, List, [], ◌∷◌, ℕ, eqb}
use Rattle.bits.specs.Answer.{Answer, answer, pick, and_then, truth}
use Rattle.bits.specs.Numbers.{done}
use Rattle.control.specs.Clock.{make_clock}
use Rattle.control.specs.declared.AdaptationControl.{AdaptationControl}
use Rattle.control.specs.declared.Compared.{Compared}
use Rattle.control.specs.declared.TransportScramblingControl.{TransportScramblingControl}
use Rattle.control.specs.Control.{make_counter, compare, follows, has_adaptation_field, has_payload, is_scrambled, scrambling}

-- two pairs of numbers are the same, number by number
unfoldable pub same_pair : ℕ → ℕ → ℕ → ℕ → Bool
same_pair b e b' e' = pick (eqb b b') (eqb e e') false

-- 14 where one of the pairs is no clock reference, else whether the two are the same
abbrev pub same_answer : ℕ → ℕ → ℕ → ℕ → Answer
same_answer b e b' e' = and_then (make_clock b e) (and_then (make_clock b' e') (answer done (truth (same_pair b e b' e') ∷ [])))

-- next is 0, same 1, a jump 2
abbrev pub compared_number : Compared → ℕ
compared_number Compared.Next = 0
compared_number Compared.Same = 1
compared_number Compared.Jump = 2

abbrev pub compared_values : Compared → List ℕ
compared_values k = compared_number k ∷ []

-- 14 where one of the numbers is no counter, else what the first is beside the second
abbrev pub compared_answer : ℕ → ℕ → Answer
compared_answer a b = and_then (make_counter a) (and_then (make_counter b) (answer done (compared_number (compare a b) ∷ [])))

-- 14 where one of the numbers is no counter, else whether the first follows the second
abbrev pub follows_answer : ℕ → ℕ → Answer
follows_answer a b = and_then (make_counter a) (and_then (make_counter b) (answer done (truth (follows a b) ∷ [])))

-- of a packet's fourth byte: whether there is an adaptation field, and whether there is a payload
abbrev pub control_values : AdaptationControl → List ℕ
control_values c = truth (has_adaptation_field c.0) ∷ truth (has_payload c.0) ∷ []

abbrev pub control_answer : ℕ → Answer
control_answer b = answer done (truth (has_adaptation_field b) ∷ truth (has_payload b) ∷ [])

-- of a packet's fourth byte: whether the packet is scrambled, and by which scheme
abbrev pub scrambling_values : TransportScramblingControl → List ℕ
scrambling_values c = truth (is_scrambled c.0) ∷ scrambling c.0 ∷ []

abbrev pub scrambling_answer : ℕ → Answer
scrambling_answer b = answer done (truth (is_scrambled b) ∷ scrambling b ∷ [])
