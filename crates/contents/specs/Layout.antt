-- The flagged fields as a writer lays them out, each by its rows of the PES packet table (clause 2.4.3.6): reserved bits and markers are 1.
-- Their readings are in Contents and Trick.
use Rattle.std.specs.Prelude.{List, [], ◌∷◌, ℕ, ◌/◌, ◌^◌}
use Rattle.bits.specs.Pack.{Part, part, joined, bytes_of}

-- ESCR (2.4.3.6): 2 reserved bits, ESCR_base in parts of 3, 15 and 15 bits, then ESCR_extension, each part followed by a marker bit
abbrev pub escr_table : ℕ → ℕ → List Part
escr_table b e =
    part 2 3
    ∷ part 3 (b / 2 ^ 30) ∷ part 1 1
    ∷ part 15 (b / 2 ^ 15) ∷ part 1 1
    ∷ part 15 b ∷ part 1 1
    ∷ part 9 e ∷ part 1 1 ∷ []

abbrev pub escr_bytes : ℕ → ℕ → List ℕ
escr_bytes b e = bytes_of 6 (joined (escr_table b e))

-- ES_rate (2.4.3.6): 22 bits between two marker bits
abbrev pub rate_table : ℕ → List Part
rate_table v = part 1 1 ∷ part 22 v ∷ part 1 1 ∷ []

abbrev pub es_rate_bytes : ℕ → List ℕ
es_rate_bytes v = bytes_of 3 (joined (rate_table v))

-- trick_mode_control and what it is followed by (2.4.3.6), as the one byte that they are
abbrev pub trick_table : ℕ → List Part
trick_table v = part 8 v ∷ []

abbrev pub trick_bytes : ℕ → List ℕ
trick_bytes v = bytes_of 1 (joined (trick_table v))

-- additional_copy_info (2.4.3.6): 7 bits after a marker bit
abbrev pub copy_table : ℕ → List Part
copy_table v = part 1 1 ∷ part 7 v ∷ []

abbrev pub copy_info_bytes : ℕ → List ℕ
copy_info_bytes v = bytes_of 1 (joined (copy_table v))

-- previous_PES_packet_CRC (2.4.3.6): 16 bits
abbrev pub crc_table : ℕ → List Part
crc_table v = part 16 v ∷ []

abbrev pub crc_bytes : ℕ → List ℕ
crc_bytes v = bytes_of 2 (joined (crc_table v))
