-- The numbers that an answer is given by, and their names. Each is given exactly when its line says.
use Rattle.std.specs.Prelude.{ℕ}

-- accepted
abbrev pub done : ℕ
done = 0

-- packet not 188 bytes, or bytes of a run not a multiple of 188; timestamp under 5; clock reference under 6; adaptation field empty
abbrev pub wrong_length : ℕ
wrong_length = 1

-- first byte not 47 hex
abbrev pub no_sync : ℕ
no_sync = 2

-- PES bytes under 6
abbrev pub short_header : ℕ
short_header = 3

-- first three bytes not 00 00 01
abbrev pub bad_start_code : ℕ
bad_start_code = 4

-- under 3 bytes after those 6
abbrev pub short_contents : ℕ
short_contents = 5

-- top two bits not 10
abbrev pub bad_check_bits : ℕ
bad_check_bits = 6

-- 3 + header data length is more than the bytes there
abbrev pub header_past_buffer : ℕ
header_past_buffer = 7

-- flagged fields end past 3 + header data length
abbrev pub fields_past_header : ℕ
fields_past_header = 8

-- flag clear; packet has no payload or adaptation field
abbrev pub field_not_present : ℕ
field_not_present = 9

-- PTS/DTS flags 01
abbrev pub pts_dts_flags_invalid : ℕ
pts_dts_flags_invalid = 10

-- adaptation field or its extension too short for the field, or extension empty
abbrev pub not_enough_data : ℕ
not_enough_data = 11

-- with the bit number; copy info: bit 0
abbrev pub marker_bit_not_set : ℕ
marker_bit_not_set = 12

-- with expected and actual
abbrev pub incorrect_prefix_bits : ℕ
incorrect_prefix_bits = 13

-- a number that the original asserts on; a state, an event, a log place or a unit's row that is not possible
abbrev pub out_of_range : ℕ
out_of_range = 14

-- this packet's events need more than the free log bytes
abbrev pub log_full : ℕ
log_full = 15

-- 4,294,967,295 packets already taken
abbrev pub index_full : ℕ
index_full = 16

-- writer: a field that cannot be written
abbrev pub bad_field : ℕ
bad_field = 17

-- writer: more bytes than a unit may have
abbrev pub too_long : ℕ
too_long = 18

-- writer: output length / 188, rounded down, is below the count
abbrev pub no_room : ℕ
no_room = 19

-- gathering: the unit would exceed the store
abbrev pub store_full : ℕ
store_full = 20
