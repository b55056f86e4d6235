-- The packets of a unit, by the tables of the standard: the header, then header and payload cut into parts of 184 bytes.
use Rattle.std.specs.Prelude.{Option, None, Some, List, [], ◌∷◌, ◌++◌, ℕ, zero, suc, ◌+◌, ◌-◌, ◌%◌, length, take, drop, replicate, ltb}
use Rattle.bits.specs.Answer.{pick, truth}
use Rattle.bits.specs.Pack.{Part, part, joined, bytes_of}
use Rattle.timestamp.specs.Stamp.{stamp_bytes}
use Rattle.contents.specs.Layout.{escr_bytes, es_rate_bytes, trick_bytes, copy_info_bytes, crc_bytes}
use Rattle.writer.specs.declared.Route.{Route}
use Rattle.writer.specs.declared.Times.{Times}
use Rattle.writer.specs.declared.Times.TheVariants.{Untimed, Pts, Both}
use Rattle.writer.specs.declared.Unit.{Unit}
use Rattle.writer.specs.Unit.{times_flags, field_flag, data_of, stated_length, count_of}

-- ---- the header (clause 2.4.3.6, the PES packet table)

-- the nine bytes that every header of parsed contents has
abbrev pub head_table : Unit → ℕ → List Part
head_table u n =
    part 24 1 ∷ part 8 u.id ∷ part 16 (stated_length u n)
    ∷ part 2 2 ∷ part 2 0 ∷ part 1 (truth u.priority) ∷ part 1 (truth u.alignment)
    ∷ part 1 (truth u.copyright) ∷ part 1 (truth u.original)
    ∷ part 2 (times_flags u.times) ∷ part 1 (field_flag u.escr) ∷ part 1 (field_flag u.rate)
    ∷ part 1 (field_flag u.trick) ∷ part 1 (field_flag u.copy) ∷ part 1 (field_flag u.crc) ∷ part 1 0
    ∷ part 8 (data_of u) ∷ []

-- prefix 0010 of a PTS alone, 0011 and 0001 of a pair
unfoldable pub times_image : Times → List ℕ
times_image Untimed = []
times_image (Pts p) = stamp_bytes 2 p
times_image (Both p d) = stamp_bytes 3 p ++ stamp_bytes 1 d

-- the flagged fields by their rows (contents' Layout): the bytes of a field where it is there
unfoldable pub image : {A : Type 0} → (A → List ℕ) → Option A → List ℕ
image bytes None = []
image bytes (Some v) = bytes v

unfoldable pub escr_image : Option (ℕ × ℕ) → List ℕ
escr_image e = image (λ v. escr_bytes v.0 v.1) e

unfoldable pub fields_image : Unit → List ℕ
fields_image u =
    times_image u.times ++ (escr_image u.escr ++ (image es_rate_bytes u.rate
    ++ (image trick_bytes u.trick ++ (image copy_info_bytes u.copy ++ image crc_bytes u.crc))))

unfoldable pub header_image : Unit → ℕ → List ℕ
header_image u n = bytes_of 9 (joined (head_table u n)) ++ fields_image u

-- ---- the packets (clause 2.4.3.2, the transport packet table)

-- sync byte; no error; start flag; no priority; PID; not scrambled; adaptation flag; payload flag; counter
abbrev pub packet_table : ℕ → ℕ → ℕ → ℕ → List Part
packet_table start pid field c =
    part 8 0x47
    ∷ part 1 0 ∷ part 1 start ∷ part 1 0 ∷ part 13 pid
    ∷ part 2 0 ∷ part 1 field ∷ part 1 1 ∷ part 4 c ∷ []

-- the adaptation field before r bytes of payload: its length 183 - r, a flag byte 00 where there is one, then FF
unfoldable pub stuffing : ℕ → List ℕ
stuffing r = pick (ltb r 184) ((183 - r) ∷ pick (ltb r 183) (0 ∷ replicate (182 - r) 0xFF) []) []

-- one packet, with these bytes as its payload
unfoldable pub carrier : ℕ → ℕ → ℕ → List ℕ → List ℕ
carrier start pid c xs = bytes_of 4 (joined (packet_table start pid (truth (ltb (length xs) 184)) c)) ++ (stuffing (length xs) ++ xs)

-- k packets with these bytes, 184 each and the last the rest; the start flag on the first alone, the counter running
unfoldable pub carried : ℕ → ℕ → ℕ → ℕ → List ℕ → List (List ℕ)
carried zero start pid c xs = []
carried (suc k) start pid c xs = carrier start pid c (take 184 xs) ∷ carried k 0 pid ((c + 1) % 16) (drop 184 xs)

-- THE PACKETS OF A UNIT with its payload
unfoldable pub packets_of : Route → Unit → List ℕ → List (List ℕ)
packets_of r u payload = carried (count_of u (length payload)) 1 r.pid r.counter (header_image u (length payload) ++ payload)
