-- What an entry reports to its host: one word, and the out numbers.
use Rattle.std.specs.Prelude.{◌≡◌, List, [], ◌∷◌, ℕ, ◌+◌, ◌*◌, eqb, get_or, drop}
use Rattle.bits.specs.Answer.{Answer, pick}
use Rattle.bits.specs.Numbers.{done}

-- the number and, on a refusal, 256 times the first and 65,536 times the second number named with it
abbrev pub word : Answer → ℕ
word a = pick (eqb a.number done) done (a.number + 256 * get_or a.values 0 0 + 65536 * get_or a.values 1 0)

-- as many numbers as are lent: the values, and 0 for those that the answer has none for
abbrev pub filled : List ℕ → List ℕ → List ℕ
filled [] vs = []
filled (x ∷ xs) vs = get_or vs 0 0 ∷ filled xs (drop 1 vs)

-- the out numbers afterwards: the answer's values where it is accepted, else as they were lent
abbrev pub outs : Answer → List ℕ → List ℕ
outs a lent = pick (eqb a.number done) (filled lent a.values) lent

-- the answer a is reported by the word w and the out numbers, lent and left
pub record Reports (a : Answer) (w : ℕ) (lent left : List ℕ) : Type 0 where
  pub number : w ≡ word a
  pub numbers : left ≡ outs a lent
