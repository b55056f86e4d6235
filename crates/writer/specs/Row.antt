-- A unit as the numbers that a host lends, in this order:
--   0 id, 1 bounded, 2 priority, 3 alignment, 4 copyright, 5 original,
--   6 times: 0 none, 1 a PTS alone, 2 PTS and DTS; 7 PTS, 8 DTS,
--   9 ESCR there, 10 base, 11 extension, 12 ES rate there, 13 ES rate, 14 trick mode byte there, 15 the byte,
--   16 copy info there, 17 copy info, 18 CRC there, 19 CRC
-- A flag is 0 for no and any other number for yes. The value of a field that is not there is not looked at.
use Rattle.std.specs.Prelude.{Option, None, Some, Bool, false, not, ◌||◌, List, [], ◌∷◌, ◌++◌, ℕ, ◌+◌, ◌^◌, eqb, leb, ltb, length, get_or}
use Rattle.bits.specs.Answer.{Answer, answer, pick, truth, other}
use Rattle.bits.specs.Numbers.{out_of_range}
use Rattle.writer.specs.declared.Route.{Route}
use Rattle.writer.specs.declared.Times.{Times}
use Rattle.writer.specs.declared.Times.TheVariants.{Untimed, Pts, Both}
use Rattle.writer.specs.declared.Unit.{Unit}
use Rattle.writer.specs.Writer.{write_of, output_of}

-- ---- each field

abbrev pub yes : ℕ → Bool
yes n = not (eqb n 0)

abbrev pub times_in : List ℕ → Times
times_in w = pick (eqb (get_or w 6 0) 0) Untimed (pick (eqb (get_or w 6 0) 1) (Pts (get_or w 7 0)) (Both (get_or w 7 0) (get_or w 8 0)))

abbrev pub escr_in : List ℕ → Option (ℕ × ℕ)
escr_in w = pick (yes (get_or w 9 0)) (Some (get_or w 10 0, get_or w 11 0)) None

-- a field of one number, which stands after its flag
abbrev pub field_in : ℕ → List ℕ → Option ℕ
field_in i w = pick (yes (get_or w i 0)) (Some (get_or w (i + 1) 0)) None

-- ---- the row

-- a field that is there holds a number of more bits than its type has
abbrev pub too_large : ℕ → ℕ → ℕ → List ℕ → Bool
too_large there value bits w = pick (yes (get_or w there 0)) (leb (2 ^ bits) (get_or w value 0)) false

-- an ESCR extension above 16 bits, an ES rate above 32, a trick mode byte or copy info above 8, a CRC above 16
abbrev pub large_value : List ℕ → Bool
large_value w = too_large 9 11 16 w || too_large 12 13 32 w || too_large 14 15 8 w || too_large 16 17 8 w || too_large 18 19 16 w

-- a row that stands for no unit: not 20 numbers, an id above 8 bits, times above 2, or a value that is too large
unfoldable pub stray_unit : List ℕ → Bool
stray_unit w = other (length w) 20 || leb (2 ^ 8) (get_or w 0 0) || ltb 2 (get_or w 6 0) || large_value w

-- THE UNIT THAT A ROW STANDS FOR, if for one
unfoldable pub unit_of : List ℕ → Option Unit
unit_of w =
    pick (stray_unit w) None
    (Some (record {
      id = get_or w 0 0;
      bounded = yes (get_or w 1 0);
      priority = yes (get_or w 2 0);
      alignment = yes (get_or w 3 0);
      copyright = yes (get_or w 4 0);
      original = yes (get_or w 5 0);
      times = times_in w;
      escr = escr_in w;
      rate = field_in 12 w;
      trick = field_in 14 w;
      copy = field_in 16 w;
      crc = field_in 18 w;
    }))

-- ---- the writer over a row: a row that stands for no unit is 14, before 17, 18 and 19, and leaves the output as it was lent

abbrev pub route : ℕ → ℕ → Route
route p c = record { pid = p; counter = c }

abbrev pub write_by : Option Unit → Route → List ℕ → List ℕ → Answer
write_by None r payload out = answer out_of_range []
write_by (Some u) r payload out = write_of r u payload out

abbrev pub output_by : Option Unit → Route → List ℕ → List ℕ → List ℕ
output_by None r payload out = out
output_by (Some u) r payload out = output_of r u payload out

unfoldable pub row_write_of : Route → List ℕ → List ℕ → List ℕ → Answer
row_write_of r w payload out = write_by (unit_of w) r payload out

unfoldable pub row_output_of : Route → List ℕ → List ℕ → List ℕ → List ℕ
row_output_of r w payload out = output_by (unit_of w) r payload out

-- ---- for theorems: THE ROW OF A UNIT, with 0 for what is not there

abbrev pub times_row : Times → List ℕ
times_row Untimed = 0 ∷ 0 ∷ 0 ∷ []
times_row (Pts p) = 1 ∷ p ∷ 0 ∷ []
times_row (Both p d) = 2 ∷ p ∷ d ∷ []

abbrev pub escr_row : Option (ℕ × ℕ) → List ℕ
escr_row None = 0 ∷ 0 ∷ 0 ∷ []
escr_row (Some e) = 1 ∷ e.0 ∷ e.1 ∷ []

abbrev pub field_row : Option ℕ → List ℕ
field_row None = 0 ∷ 0 ∷ []
field_row (Some v) = 1 ∷ v ∷ []

unfoldable pub unit_row : Unit → List ℕ
unit_row u =
    u.id ∷ truth u.bounded ∷ truth u.priority ∷ truth u.alignment ∷ truth u.copyright ∷ truth u.original
    ∷ (times_row u.times ++ escr_row u.escr ++ field_row u.rate ++ field_row u.trick ++ field_row u.copy ++ field_row u.crc)
