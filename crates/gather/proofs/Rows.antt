-- What a row stands for, in each case.
-- Assumes nothing.
use mathlib.Core.Path.{◌≡◌, refl}
use mathlib.Core.Bool.{Bool, true, false}
use Prim.Native.Nat.{ℕ, ◌≤◌}
use native.Mathlib.Omega.{arith}
use lib.Dec.{eqb, ltb}
use borrow.Author.Tests.{ne_eqb}
use Rattle.bits.specs.Answer.{pick, truth}
use Rattle.gather.specs.declared.Lies.{Lies}
use Rattle.gather.specs.declared.Lies.TheVariants.{Packet, Store}
use Rattle.gather.specs.declared.Gathering.{Gathering}
use Rattle.std.specs.Prelude.{Some, None}
use Rattle.gather.specs.Gather.{gathering}
use Rattle.gather.specs.Row.{lies_of, lies_number, gathering_of, gathering_row}

-- ---- a row reads back

-- the row of a state that is not refused by 14 stands for that state: no packet has a place 255
pub row_back : (g : Gathering) → ((a : ℕ) → g.lies ≡ Packet a → a ≤ 188) → gathering_of (gathering_row g) ≡ Some g
unfolding gathering_of gathering_row
row_back g h = opens g.opened g.lies h
  where
    opens : (o : Bool) (l : Lies) → ((a : ℕ) → l ≡ Packet a → a ≤ 188)
        → pick (ltb 1 (truth o)) None (Some (gathering (eqb (truth o) 1) g.count (lies_of (lies_number l)))) ≡ Some (gathering o g.count l)
    opens true Store h = refl
    opens false Store h = refl
    opens true (Packet a) h = simp (ne_eqb a 255 (λ z. let w = h a refl in omega arith))
    opens false (Packet a) h = simp (ne_eqb a 255 (λ z. let w = h a refl in omega arith))
