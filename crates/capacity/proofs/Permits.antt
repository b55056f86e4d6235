-- What the writer's tests say of a route and a unit that pass them.
-- Assumes nothing.
use Rattle.std.specs.Prelude.{Option, None, Some}
use mathlib.Core.Path.{◌≡◌}
use mathlib.Core.Bool.{Bool, true}
use mathlib.Core.List.{List, [], ◌∷◌}
use Prim.Native.Nat.{ℕ, ◌-◌, ◌^◌, ◌≤◌, ◌<◌}
use native.Mathlib.Omega.{arith}
use lib.Dec.{leb, ltb}
use borrow.Author.Tests.{leb-true, ltb-true}
use Rattle.bits.specs.Answer.{All}
use Rattle.bits.proofs.Bools.{both}
use Rattle.pes.specs.Stream.{parsed_id}
use Rattle.writer.specs.declared.Route.{Route}
use Rattle.writer.specs.declared.Times.{Times}
use Rattle.writer.specs.declared.Times.TheVariants.{Untimed, Pts, Both}
use Rattle.writer.specs.declared.Unit.{Unit}
use Rattle.writer.specs.Unit.{stated_length}
use Rattle.writer.specs.Writer.{all_of, within, times_fit, escr_fits, fits, route_tests, unit_tests, size_tests}
use Rattle.capacity.specs.Demand.{at_most, Permitted}

-- ---- the same as numbers

abbrev pub TimesFit : Times → Type 0
TimesFit Untimed = 0 ≤ 0
TimesFit (Pts p) = p < 2 ^ 33
TimesFit (Both p d) = (p < 2 ^ 33) × (d < 2 ^ 33)

abbrev pub EscrFits : Option (ℕ × ℕ) → Type 0
EscrFits None = 0 ≤ 0
EscrFits (Some e) = (e.0 < 2 ^ 33) × (e.1 ≤ 299)

pub record RouteFits (r : Route) : Type 0 where
  pub pid_high : r.pid ≤ 8190
  pub counter-fits : r.counter ≤ 15

-- what the header's bytes need
pub record UnitFits (u : Unit) (n : ℕ) : Type 0 where
  pub id-byte : u.id ≤ 255
  pub id-parsed : parsed_id u.id ≡ true
  pub times-fit : TimesFit u.times
  pub escr-fits : EscrFits u.escr
  pub rate-fits : at_most (2 ^ 22 - 1) u.rate
  pub trick-fits : at_most 255 u.trick
  pub copy-fits : at_most 127 u.copy
  pub crc-fits : at_most 65535 u.crc
  pub length-fits : stated_length u n ≤ 65535

-- ---- the tests

abbrev IsTrue : Bool → Type 0
IsTrue b = b ≡ true

all_true : (bs : List Bool) → all_of bs ≡ true → All IsTrue bs
all_true [] h = tt
all_true (b ∷ bs) h = let g = both b (all_of bs) h in (g.0, all_true bs g.1)

within-true : (a z v : ℕ) → within a z v ≡ true → (a ≤ v) × (v ≤ z)
within-true a z v h = let g = both (leb a v) (leb v z) h in (leb-true a v g.0, leb-true v z g.1)

times-true : (t : Times) → times_fit t ≡ true → TimesFit t
times-true Untimed h = omega arith
times-true (Pts p) h = ltb-true p (2 ^ 33) h
times-true (Both p d) h = let g = both (ltb p (2 ^ 33)) (ltb d (2 ^ 33)) h in (ltb-true p (2 ^ 33) g.0, ltb-true d (2 ^ 33) g.1)

escr-true : (e : Option (ℕ × ℕ)) → escr_fits e ≡ true → EscrFits e
escr-true None h = omega arith
escr-true (Some e) h = let g = both (ltb e.0 (2 ^ 33)) (leb e.1 299) h in (ltb-true e.0 (2 ^ 33) g.0, leb-true e.1 299 g.1)

fits-true : (a z : ℕ) (f : Option ℕ) → fits a z f ≡ true → at_most z f
fits-true a z None h = omega arith
fits-true a z (Some v) h = (within-true a z v h).1

module _ (r : Route) (u : Unit) (n : ℕ) (ok : Permitted r u n) where
  pub route-fits : RouteFits r
  unfolding route_tests
  route-fits =
      let g = all_true (route_tests r) ok.route-good in
      record { pid_high = (within-true 16 8190 r.pid g.0).1; counter-fits = leb-true r.counter 15 g.1.0 }

  pub unit-fits : UnitFits u n
  unfolding unit_tests size_tests
  unit-fits =
      let g = all_true (unit_tests u) ok.unit-good in
      let q = all_true (size_tests u n) ok.size-good in
      let g₁ = g.1 in
      let g₂ = g₁.1 in
      let g₃ = g₂.1 in
      let g₄ = g₃.1 in
      let g₅ = g₄.1 in
      let g₆ = g₅.1 in
      record {
        id-byte = ok.typed.id-byte;
        id-parsed = g₁.0;
        times-fit = times-true u.times g₃.0;
        escr-fits = escr-true u.escr g₄.0;
        rate-fits = fits-true 1 (2 ^ 22 - 1) u.rate g₅.0;
        trick-fits = ok.typed.trick-byte;
        copy-fits = fits-true 0 127 u.copy g₆.0;
        crc-fits = ok.typed.crc-word;
        length-fits = leb-true (stated_length u n) 65535 q.1.0;
      }
