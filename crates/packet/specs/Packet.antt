-- The transport packet (clause 2.4.3.2, the transport packet table), 188 bytes:
--   sync_byte 8, transport_error_indicator 1, payload_unit_start_indicator 1, transport_priority 1, PID 13,
--   transport_scrambling_control 2, adaptation_field_control 2, continuity_counter 4,
--   then the adaptation field with its length byte, and the payload.
use Rattle.std.specs.Prelude.{Bool, false, List, [], ◌∷◌, ℕ, ◌+◌, ◌-◌, length, get_or, eqb, leb, ltb}
use Rattle.bits.specs.Answer.{Answer, answer, pick, truth, Check, ◌gives◌, unless, other}
use Rattle.bits.specs.Field.{field, flag}
use Rattle.bits.specs.Numbers.{done, wrong_length, no_sync, field_not_present}
use Rattle.control.specs.declared.AdaptationControl.{AdaptationControl}
use Rattle.control.specs.declared.TransportScramblingControl.{TransportScramblingControl}

-- ---- the values of what is read: the whole fourth byte

abbrev pub scrambling_values : TransportScramblingControl → List ℕ
scrambling_values c = c.0 ∷ []

abbrev pub control_values : AdaptationControl → List ℕ
control_values c = c.0 ∷ []

-- ---- what is read

-- a slice that is no packet: 1 where there are not 188 bytes, 2 where the first is not the sync byte
unfoldable pub not_packet : List ℕ → List Check
not_packet xs =
    other (length xs) 188 gives wrong_length
    ∷ other (get_or xs 0 0) 0x47 gives no_sync
    ∷ []

abbrev pub tried : List ℕ → Answer
tried xs = unless (not_packet xs) (answer done [])

-- the places of the flags
abbrev pub error_bit : ℕ
error_bit = 8

abbrev pub start_bit : ℕ
start_bit = 9

abbrev pub priority_bit : ℕ
priority_bit = 10

-- payload_unit_start_indicator: of a packet, and of its second byte, which has transport_error_indicator before it
unfoldable pub start_flag : List ℕ → Bool
start_flag xs = flag xs start_bit

unfoldable pub start_of : ℕ → Bool
start_of b = flag (b ∷ []) 1

abbrev pub read_flag : ℕ → List ℕ → Answer
read_flag i xs = unless (not_packet xs) (answer done (truth (flag xs i) ∷ []))

unfoldable pub pid_field : List ℕ → ℕ
pid_field xs = field xs 11 13

abbrev pub read_pid : List ℕ → Answer
read_pid xs = unless (not_packet xs) (answer done (pid_field xs ∷ []))

-- the fourth byte, of which the crate control reads the scrambling and adaptation control bits
abbrev pub read_byte_four : List ℕ → Answer
read_byte_four xs = unless (not_packet xs) (answer done (get_or xs 3 0 ∷ []))

unfoldable pub counter_field : List ℕ → ℕ
counter_field xs = field xs 28 4

abbrev pub read_counter : List ℕ → Answer
read_counter xs = unless (not_packet xs) (answer done (counter_field xs ∷ []))

-- adaptation_field_control: whether there is an adaptation field, and whether there is a payload
unfoldable pub adaptation_flag : List ℕ → Bool
adaptation_flag xs = flag xs 26

unfoldable pub payload_flag : List ℕ → Bool
payload_flag xs = flag xs 27

-- adaptation_field_length
unfoldable pub adaptation_length : List ℕ → ℕ
adaptation_length xs = field xs 32 8

-- an adaptation field is given with payload for the lengths 1 to 182, without payload only for 183
unfoldable pub adaptation_there : List ℕ → Bool
adaptation_there xs =
    pick (adaptation_flag xs)
    (pick (payload_flag xs) (pick (leb 1 (adaptation_length xs)) (leb (adaptation_length xs) 182) false) (eqb (adaptation_length xs) 183))
    false

abbrev pub read_adaptation : List ℕ → Answer
read_adaptation xs = unless (not_packet xs) (pick (adaptation_there xs) (answer done (5 ∷ adaptation_length xs ∷ [])) (answer field_not_present []))

-- where the content starts after an adaptation field of this length: the header has 4 bytes, and adaptation_field_length is the fifth
abbrev pub after_field : ℕ → ℕ
after_field n = 5 + n

-- where the content after the header and the adaptation field starts
unfoldable pub content_at : List ℕ → ℕ
content_at xs = pick (adaptation_flag xs) (after_field (adaptation_length xs)) 4

-- a payload is there where its flag is set and the content starts below 188
unfoldable pub payload_there : List ℕ → Bool
payload_there xs = pick (payload_flag xs) (ltb (content_at xs) 188) false

abbrev pub read_payload : List ℕ → Answer
read_payload xs = unless (not_packet xs) (pick (payload_there xs) (answer done (content_at xs ∷ (188 - content_at xs) ∷ [])) (answer field_not_present []))
