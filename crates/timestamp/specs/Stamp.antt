-- PTS and DTS (clause 2.4.3.6, the PES packet table): 4 bits of prefix, then 33 bits of value in parts of 3, 15 and 15, each part
-- followed by a marker bit.
use Rattle.std.specs.Prelude.{Bool, false, List, [], ◌∷◌, ℕ, ◌+◌, ◌-◌, ◌*◌, ◌/◌, ◌^◌, length, eqb, leb, ltb}
use Rattle.bits.specs.Answer.{Answer, answer, pick, limited}
use Rattle.bits.specs.Field.{bit, field}
use Rattle.bits.specs.Numbers.{done, wrong_length, marker_bit_not_set, incorrect_prefix_bits}
use Rattle.bits.specs.Pack.{Part, part, joined, bytes_of}
use Rattle.timestamp.specs.declared.Timestamp.{Timestamp}

-- a timestamp's one value
abbrev pub timestamp_values : Timestamp → List ℕ
timestamp_values t = t.val ∷ []

-- the 33 bits of value: [32..30] from bit 4 on, [29..15] from bit 8 on, [14..0] from bit 24 on
unfoldable pub stamp_value : List ℕ → ℕ
stamp_value xs = field xs 4 3 * 2 ^ 30 + field xs 8 15 * 2 ^ 15 + field xs 24 15

-- reading with no look at the prefix: 1 below 5 bytes; 12 at the first marker bit that is 0; else the value
unfoldable pub read_stamp : List ℕ → Answer
read_stamp xs =
    pick (ltb (length xs) 5) (answer wrong_length [])
    (pick (eqb (bit xs 7) 0) (answer marker_bit_not_set (7 ∷ []))
    (pick (eqb (bit xs 23) 0) (answer marker_bit_not_set (23 ∷ []))
    (pick (eqb (bit xs 39) 0) (answer marker_bit_not_set (39 ∷ []))
    (answer done (stamp_value xs ∷ [])))))

-- the same after the prefix is seen to be e
unfoldable pub read_prefixed : ℕ → List ℕ → Answer
read_prefixed e xs =
    pick (ltb (length xs) 5) (answer wrong_length [])
    (pick (eqb (field xs 0 4) e) (read_stamp xs)
    (answer incorrect_prefix_bits (e ∷ field xs 0 4 ∷ [])))

-- the prefixes: 0010 of a PTS that stands alone, 0001 of a DTS
abbrev pub pts_prefix : ℕ
pts_prefix = 2

abbrev pub dts_prefix : ℕ
dts_prefix = 1

-- the rows of the table, for a writer
abbrev pub stamp_table : ℕ → ℕ → List Part
stamp_table p v =
    part 4 p
    ∷ part 3 (v / 2 ^ 30) ∷ part 1 1
    ∷ part 15 (v / 2 ^ 15) ∷ part 1 1
    ∷ part 15 v ∷ part 1 1
    ∷ []

unfoldable pub stamp_bytes : ℕ → ℕ → List ℕ
stamp_bytes p v = bytes_of 5 (joined (stamp_table p v))

-- the later number is not above the earlier, and the difference is at least 2 ^ 32
unfoldable pub likely_wrapped : ℕ → ℕ → Bool
likely_wrapped a since = pick (leb a since) (leb (2 ^ 32) (since - a)) false

-- of a number: the timestamp below 2 ^ 34, which is where the original asserts, else 14
unfoldable pub make_stamp : ℕ → Answer
make_stamp v = limited (ltb v (2 ^ 34)) (v ∷ [])
