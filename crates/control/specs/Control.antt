-- The packet's fourth byte (clause 2.4.3.2, the transport packet table): transport_scrambling_control 2 bits,
-- adaptation_field_control 2 bits, continuity_counter 4 bits; and the numbers of counters and PIDs.
use Rattle.std.specs.Prelude.{Bool, true, false, not, List, [], ◌∷◌, ℕ, ◌+◌, ◌%◌, ◌^◌, eqb, ltb, Option, Some, None}
use Rattle.bits.specs.Answer.{Answer, answer, pick, limited}
use Rattle.bits.specs.Field.{field, flag}
use Rattle.bits.specs.Numbers.{done}
use Rattle.control.specs.declared.ContinuityCounter.{ContinuityCounter}
use Rattle.control.specs.declared.Pid.{Pid}
use Rattle.control.specs.declared.Compared.{Compared}
use Rattle.control.specs.declared.Compared.TheVariants.{Next, Same, Jump}

-- adaptation_field_control: its first bit says that there is an adaptation field, its second that there is a payload
unfoldable pub has_adaptation_field : ℕ → Bool
has_adaptation_field b = flag (b ∷ []) 2

unfoldable pub has_payload : ℕ → Bool
has_payload b = flag (b ∷ []) 3

-- transport_scrambling_control: 00 is not scrambled
unfoldable pub scrambling : ℕ → ℕ
scrambling b = field (b ∷ []) 0 2

unfoldable pub is_scrambled : ℕ → Bool
is_scrambled b = not (eqb (scrambling b) 0)

-- not scrambled is kind 0, scrambled kind 1 with the scheme
abbrev pub scheme_values : Option ℕ → List ℕ
scheme_values None = 0 ∷ []
scheme_values (Some s) = 1 ∷ s ∷ []

-- the scheme that transport_scrambling_control names
unfoldable pub read_scheme : ℕ → Answer
read_scheme b = pick (eqb (scrambling b) 0) (answer done (0 ∷ [])) (answer done (1 ∷ scrambling b ∷ []))

-- a counter has 4 bits, and follows another that is one less, modulo 16
abbrev pub counter_values : ContinuityCounter → List ℕ
counter_values c = c.val ∷ []

unfoldable pub make_counter : ℕ → Answer
make_counter n = limited (ltb n (2 ^ 4)) (n ∷ [])

unfoldable pub follows : ℕ → ℕ → Bool
follows a before = eqb ((before + 1) % 2 ^ 4) a

-- beside the last one it is the next, the same, or neither
unfoldable pub compare : ℕ → ℕ → Compared
compare a last = pick (follows a last) Next (pick (eqb a last) Same Jump)

abbrev pub is_same : Compared → Bool
is_same Next = false
is_same Same = true
is_same Jump = false

-- continuity_counter, in the fourth byte
unfoldable pub counter_of : ℕ → ℕ
counter_of b = field (b ∷ []) 4 4

-- a PID has 13 bits
abbrev pub pid_values : Pid → List ℕ
pid_values p = p.0 ∷ []

unfoldable pub make_pid : ℕ → Answer
make_pid n = limited (ltb n (2 ^ 13)) (n ∷ [])

-- PID, in the second and third bytes: the last 13 of their bits
unfoldable pub pid_of : ℕ → ℕ → ℕ
pid_of high low = field (high ∷ low ∷ []) 3 13
