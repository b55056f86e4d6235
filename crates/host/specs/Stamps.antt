-- Timestamps that a host hands over as numbers.
use Rattle.std.specs.Prelude.{[], ◌∷◌, ℕ}
use Rattle.bits.specs.Answer.{Answer, answer, and_then, truth}
use Rattle.bits.specs.Numbers.{done}
use Rattle.timestamp.specs.Stamp.{make_stamp, likely_wrapped}

-- 14 where one of the numbers is no timestamp, else whether the time has likely wrapped
abbrev pub wrap_answer : ℕ → ℕ → Answer
wrap_answer v since = and_then (make_stamp v) (and_then (make_stamp since) (answer done (truth (likely_wrapped v since) ∷ [])))
