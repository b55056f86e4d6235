-- The trick mode byte (clause 2.4.3.6, the PES packet table): trick_mode_control 3, then 5 bits by the control:
--   000 fast forward and 011 fast reverse: field_id 2, intra_slice_refresh 1, frequency_truncation 2;
--   001 slow motion and 100 slow reverse: rep_cntrl 5; 010 freeze frame: field_id 2, reserved 3; else reserved 5.
use Rattle.std.specs.Prelude.{List, [], ◌∷◌, ℕ, drop, eqb}
use Rattle.bits.specs.Answer.{Answer, answer, pick}
use Rattle.bits.specs.Field.{bit, field}
use Rattle.bits.specs.Numbers.{done}
use Rattle.contents.specs.Contents.{flagged, trick_bit, trick_at}

unfoldable pub control : List ℕ → ℕ
control xs = field xs 0 3

-- a kind, and what is given with it. In slow motion, slow reverse and the reserved modes the original gives the control number where
-- the table has its five bits.
unfoldable pub trick_of : List ℕ → List ℕ
trick_of xs =
    pick (eqb (control xs) 0) (0 ∷ field xs 3 2 ∷ bit xs 5 ∷ field xs 6 2 ∷ [])
    (pick (eqb (control xs) 1) (1 ∷ control xs ∷ [])
    (pick (eqb (control xs) 2) (2 ∷ field xs 3 2 ∷ field xs 5 3 ∷ [])
    (pick (eqb (control xs) 3) (3 ∷ field xs 3 2 ∷ bit xs 5 ∷ field xs 6 2 ∷ [])
    (pick (eqb (control xs) 4) (4 ∷ control xs ∷ [])
    (5 ∷ control xs ∷ [])))))

-- the standard's sense: the same kinds, with the table's bits
unfoldable pub standard_trick : List ℕ → List ℕ
standard_trick xs =
    pick (eqb (control xs) 0) (0 ∷ field xs 3 2 ∷ bit xs 5 ∷ field xs 6 2 ∷ [])
    (pick (eqb (control xs) 1) (1 ∷ field xs 3 5 ∷ [])
    (pick (eqb (control xs) 2) (2 ∷ field xs 3 2 ∷ field xs 5 3 ∷ [])
    (pick (eqb (control xs) 3) (3 ∷ field xs 3 2 ∷ bit xs 5 ∷ field xs 6 2 ∷ [])
    (pick (eqb (control xs) 4) (4 ∷ field xs 3 5 ∷ [])
    (5 ∷ field xs 3 5 ∷ [])))))

abbrev pub read_trick : List ℕ → Answer
read_trick c = flagged trick_bit c (answer done (trick_of (drop (trick_at c) c)))

abbrev pub read_raw_trick : List ℕ → Answer
read_raw_trick c = flagged trick_bit c (answer done (field (drop (trick_at c) c) 0 8 ∷ []))

-- by the byte alone
abbrev pub trick_byte : ℕ → List ℕ
trick_byte b = trick_of (b ∷ [])

-- ---- cited by private functions alone

abbrev pub truncation_bits : ℕ → ℕ
truncation_bits b = field (b ∷ []) 6 2
