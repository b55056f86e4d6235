-- What the writer answers, and what it leaves in its output.
use Rattle.std.specs.Prelude.{Option, None, Some, Bool, true, false, not, List, [], ◌∷◌, ◌++◌, ℕ, ◌-◌, ◌*◌, ◌/◌, ◌^◌, length, drop, eqb, leb, ltb}
use Rattle.bits.specs.Answer.{Answer, answer, pick, Check, ◌gives◌, unless}
use Rattle.bits.specs.Numbers.{done, bad_field, too_long, no_room}
use Rattle.bits.specs.Pack.{flat}
use Rattle.pes.specs.Stream.{parsed_id}
use Rattle.writer.specs.declared.Route.{Route}
use Rattle.writer.specs.declared.Times.{Times}
use Rattle.writer.specs.declared.Times.TheVariants.{Untimed, Pts, Both}
use Rattle.writer.specs.declared.Unit.{Unit}
use Rattle.writer.specs.Unit.{stated_length, count_of}
use Rattle.writer.specs.Packets.{packets_of}

-- every test of a list holds
abbrev pub all_of : List Bool → Bool
all_of [] = true
all_of (b ∷ bs) = pick b (all_of bs) false

-- from a up to z
abbrev pub within : ℕ → ℕ → ℕ → Bool
within a z v = pick (leb a v) (leb v z) false

abbrev pub times_fit : Times → Bool
times_fit Untimed = true
times_fit (Pts p) = ltb p (2 ^ 33)
times_fit (Both p d) = pick (ltb p (2 ^ 33)) (ltb d (2 ^ 33)) false

abbrev pub escr_fits : Option (ℕ × ℕ) → Bool
escr_fits None = true
escr_fits (Some e) = pick (ltb e.0 (2 ^ 33)) (leb e.1 299) false

abbrev pub fits : ℕ → ℕ → Option ℕ → Bool
fits a z None = true
fits a z (Some v) = within a z v

-- the field list: 17 where a test fails. That of the route ..
unfoldable pub route_tests : Route → List Bool
route_tests r = within 16 8190 r.pid ∷ leb r.counter 15 ∷ []

-- .. and that of the unit
unfoldable pub unit_tests : Unit → List Bool
unit_tests u =
    leb 0xBC u.id
    ∷ parsed_id u.id
    ∷ pick u.bounded true (within 0xE0 0xEF u.id)
    ∷ times_fit u.times
    ∷ escr_fits u.escr
    ∷ fits 1 (2 ^ 22 - 1) u.rate
    ∷ fits 0 127 u.copy
    ∷ []

-- the size list: 18 where a test fails, with n bytes of payload
unfoldable pub size_tests : Unit → ℕ → List Bool
size_tests u n = leb n 65536 ∷ leb (stated_length u n) 65535 ∷ []

-- what is not written, with n bytes of payload and so many bytes of output: 17, 18 and 19 in this order
abbrev pub not_written : Route → Unit → ℕ → ℕ → List Check
not_written r u n room =
    not (all_of (route_tests r)) gives bad_field
    ∷ not (all_of (unit_tests u)) gives bad_field
    ∷ not (all_of (size_tests u n)) gives too_long
    ∷ ltb (room / 188) (count_of u n) gives no_room
    ∷ []

-- else the number of packets
unfoldable pub write_of : Route → Unit → List ℕ → List ℕ → Answer
write_of r u payload out = unless (not_written r u (length payload) (length out)) (answer done (count_of u (length payload) ∷ []))

-- the whole output afterwards: the packets, and what was there past them; on a refusal as it was lent
unfoldable pub output_of : Route → Unit → List ℕ → List ℕ → List ℕ
output_of r u payload out =
    pick (eqb (write_of r u payload out).number done)
    (flat (packets_of r u payload) ++ drop (188 * count_of u (length payload)) out)
    out
