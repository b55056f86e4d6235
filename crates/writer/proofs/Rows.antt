-- What a row stands for, where it has a value for each field; and that the row of a unit stands for it.
-- Assumes nothing.
use mathlib.Core.Path.{◌≡◌, refl, ap}
use mathlib.Core.Bool.{Bool, true, false}
use mathlib.Core.List.{List, [], ◌∷◌}
use Prim.Native.Nat.{ℕ, ◌^◌, ◌<◌}
use lib.Dec.{eqb, leb, ltb}
use lib.ListN.{length, get_or}
use borrow.Author.Tests.{eq-eqb, lt-leb}
use Rattle.std.specs.Prelude.{Option, None, Some}
use Rattle.bits.specs.Answer.{pick, truth}
use Rattle.writer.specs.declared.Route.{Route}
use Rattle.writer.specs.declared.Times.{Times}
use Rattle.writer.specs.declared.Times.TheVariants.{Untimed, Pts, Both}
use Rattle.writer.specs.declared.Unit.{Unit}
use Rattle.writer.specs.Writer.{write_of, output_of}
use Rattle.writer.specs.Row.{yes, times_in, escr_in, field_in, too_large, stray_unit, unit_of}
use Rattle.writer.specs.Row.{write_by, output_by, row_write_of, row_output_of, times_row, escr_row, field_row, unit_row}

-- what a field is, if it is one
accepted : {A : Type 0} (b : Bool) (x y : A) → Some y ≡ pick b None (Some x) → (b ≡ false) × (y ≡ x)
accepted true x y e = cc
accepted false x y e = (refl, cc)

pub row_stands : (w : List ℕ) (id : ℕ) (times : Times) (escr : Option (ℕ × ℕ)) (rate trick copy crc : Option ℕ)
    → length w ≡ 20 → (get_or w 0 0 < 256) × (id ≡ get_or w 0 0)
    → Some times ≡ pick (ltb 2 (get_or w 6 0)) None (Some (times_in w)) → Some escr ≡ pick (too_large 9 11 16 w) None (Some (escr_in w))
    → Some rate ≡ pick (too_large 12 13 32 w) None (Some (field_in 12 w)) → Some trick ≡ pick (too_large 14 15 8 w) None (Some (field_in 14 w))
    → Some copy ≡ pick (too_large 16 17 8 w) None (Some (field_in 16 w)) → Some crc ≡ pick (too_large 18 19 16 w) None (Some (field_in 18 w))
    → Some (record {
      id = id;
      bounded = yes (get_or w 1 0);
      priority = yes (get_or w 2 0);
      alignment = yes (get_or w 3 0);
      copyright = yes (get_or w 4 0);
      original = yes (get_or w 5 0);
      times = times;
      escr = escr;
      rate = rate;
      trick = trick;
      copy = copy;
      crc = crc;
    }) ≡ unit_of w
unfolding unit_of stray_unit
row_stands w id times escr rate trick copy crc l i t e r k y z =
    let t = accepted _ _ _ t in
    let e = accepted _ _ _ e in
    let r = accepted _ _ _ r in
    let k = accepted _ _ _ k in
    let y = accepted _ _ _ y in
    let z = accepted _ _ _ z in
    rw (i.1, t.1, e.1, r.1, k.1, y.1, z.1, eq-eqb (length w) 20 l, lt-leb 256 (get_or w 0 0) i.0, t.0, e.0, r.0, k.0, y.0, z.0)

-- ---- a row reads back

-- the numbers of a unit fit their types
pub record FitsTypes (u : Unit) : Type 0 where
  pub id-byte : u.id < 2 ^ 8
  pub extension_bits : (b e : ℕ) → u.escr ≡ Some (b, e) → e < 2 ^ 16
  pub rate-bits : (v : ℕ) → u.rate ≡ Some v → v < 2 ^ 32
  pub trick-byte : (v : ℕ) → u.trick ≡ Some v → v < 2 ^ 8
  pub copy-byte : (v : ℕ) → u.copy ≡ Some v → v < 2 ^ 8
  pub crc-bits : (v : ℕ) → u.crc ≡ Some v → v < 2 ^ 16

-- each field of a row by its numbers: what they stand for, and that none is too large
record TimesNumbers (t : Times) : Type 0 where
  kind : ℕ
  pts : ℕ
  dts : ℕ
  numbers : times_row t ≡ kind ∷ pts ∷ dts ∷ []
  stands : pick (eqb kind 0) Untimed (pick (eqb kind 1) (Pts pts) (Both pts dts)) ≡ t
  small : ltb 2 kind ≡ false

times_numbers : (t : Times) → TimesNumbers t
times_numbers Untimed = record { kind = 0; pts = 0; dts = 0; numbers = refl; stands = refl; small = refl }
times_numbers (Pts p) = record { kind = 1; pts = p; dts = 0; numbers = refl; stands = refl; small = refl }
times_numbers (Both p d) = record { kind = 2; pts = p; dts = d; numbers = refl; stands = refl; small = refl }

record EscrNumbers (e : Option (ℕ × ℕ)) : Type 0 where
  there : ℕ
  base : ℕ
  extension : ℕ
  numbers : escr_row e ≡ there ∷ base ∷ extension ∷ []
  stands : pick (yes there) (Some (base, extension)) None ≡ e
  small : pick (yes there) (leb (2 ^ 16) extension) false ≡ false

escr_numbers : (e : Option (ℕ × ℕ)) → ((b x : ℕ) → e ≡ Some (b, x) → x < 2 ^ 16) → EscrNumbers e
escr_numbers None h = record { there = 0; base = 0; extension = 0; numbers = refl; stands = refl; small = refl }
escr_numbers (Some e) h =
    record { there = 1; base = e.0; extension = e.1; numbers = refl; stands = refl; small = lt-leb (2 ^ 16) e.1 (h e.0 e.1 refl) }

record FieldNumbers (limit : ℕ) (f : Option ℕ) : Type 0 where
  there : ℕ
  value : ℕ
  numbers : field_row f ≡ there ∷ value ∷ []
  stands : pick (yes there) (Some value) None ≡ f
  small : pick (yes there) (leb limit value) false ≡ false

field_numbers : (limit : ℕ) (f : Option ℕ) → ((v : ℕ) → f ≡ Some v → v < limit) → FieldNumbers limit f
field_numbers limit None h = record { there = 0; value = 0; numbers = refl; stands = refl; small = refl }
field_numbers limit (Some v) h = record { there = 1; value = v; numbers = refl; stands = refl; small = lt-leb limit v (h v refl) }

flag-back : (b : Bool) → yes (truth b) ≡ b
flag-back true = refl
flag-back false = refl

-- THE ROW OF A UNIT STANDS FOR THAT UNIT
pub unit_back : (u : Unit) → FitsTypes u → unit_of (unit_row u) ≡ Some u
unfolding unit_of stray_unit unit_row
unit_back u h =
    let t = times_numbers u.times in
    let e = escr_numbers u.escr h.extension_bits in
    let r = field_numbers (2 ^ 32) u.rate h.rate-bits in
    let k = field_numbers (2 ^ 8) u.trick h.trick-byte in
    let y = field_numbers (2 ^ 8) u.copy h.copy-byte in
    let c = field_numbers (2 ^ 16) u.crc h.crc-bits in
    let i : leb (2 ^ 8) u.id ≡ false = lt-leb (2 ^ 8) u.id h.id-byte in
    rw (
      t.numbers,
      e.numbers,
      r.numbers,
      k.numbers,
      y.numbers,
      c.numbers,
      i,
      t.small,
      e.small,
      r.small,
      k.small,
      y.small,
      c.small,
      flag-back u.bounded,
      flag-back u.priority,
      flag-back u.alignment,
      flag-back u.copyright,
      flag-back u.original,
      t.stands,
      e.stands,
      r.stands,
      k.stands,
      y.stands,
      c.stands,
    )

-- so what is written of the row is what is written of the unit
pub unit-row-written : (r : Route) (u : Unit) (payload out : List ℕ) → FitsTypes u
    → (row_write_of r (unit_row u) payload out ≡ write_of r u payload out) × (row_output_of r (unit_row u) payload out ≡ output_of r u payload out)
unfolding row_write_of row_output_of
unit-row-written r u payload out h = (
  ap (λ (t : Option Unit). write_by t r payload out) (unit_back u h),
  ap (λ (t : Option Unit). output_by t r payload out) (unit_back u h),
)
