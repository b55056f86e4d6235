-- Clock references. A PCR is a base of 33 bits, 6 reserved bits and an extension of 9 bits (clause 2.4.3.4, the adaptation field
-- table); its number counts 27 MHz: base * 300 + extension (clause 2.4.3.5).
use Rattle.std.specs.Prelude.{Bool, false, List, [], ◌∷◌, ℕ, ◌+◌, ◌*◌, ◌^◌, length, ltb}
use Rattle.bits.specs.Answer.{Answer, answer, pick, limited}
use Rattle.bits.specs.Field.{field}
use Rattle.bits.specs.Numbers.{done, wrong_length}
use Rattle.control.specs.declared.ClockRef.{ClockRef}

abbrev pub clock : ℕ → ℕ → ClockRef
clock b e = record { base = b; extension = e }

-- a clock reference's two values
abbrev pub clock_values : ClockRef → List ℕ
clock_values c = c.base ∷ c.extension ∷ []

-- the table's base and extension, from a place on
unfoldable pub clock_base : List ℕ → ℕ
clock_base xs = field xs 0 33

unfoldable pub clock_extension : List ℕ → ℕ
clock_extension xs = field xs 39 9

-- 1 below 6 bytes, else base and extension
unfoldable pub read_clock : List ℕ → Answer
read_clock xs = pick (ltb (length xs) 6) (answer wrong_length []) (answer done (clock_base xs ∷ clock_extension xs ∷ []))

-- base and extension fit 33 and 9 bits
abbrev pub clock_fits : ℕ → ℕ → Bool
clock_fits b e = pick (ltb b (2 ^ 33)) (ltb e (2 ^ 9)) false

-- of two numbers: 14 where the original asserts
unfoldable pub make_clock : ℕ → ℕ → Answer
make_clock b e = limited (clock_fits b e) (b ∷ e ∷ [])

-- the number of a clock reference; 14 for one that no reading and no making gives
unfoldable pub clock_number : ℕ → ℕ → Answer
clock_number b e = limited (clock_fits b e) ((b * 300 + e) ∷ [])
