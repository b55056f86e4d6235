-- A unit to write: how long its header is, and how many packets it takes.
use Rattle.std.specs.Prelude.{Option, None, Some, ℕ, ◌+◌, ◌*◌, ◌/◌}
use Rattle.bits.specs.Answer.{pick}
use Rattle.writer.specs.declared.Times.{Times}
use Rattle.writer.specs.declared.Times.TheVariants.{Untimed, Pts, Both}
use Rattle.writer.specs.declared.Unit.{Unit}

-- ---- the flags (clause 2.4.3.6, the PES packet table)

-- PTS_DTS_flags
abbrev pub times_flags : Times → ℕ
times_flags Untimed = 0
times_flags (Pts p) = 2
times_flags (Both p d) = 3

-- that of any other field: whether it is there
abbrev pub field_flag : {A : Type 0} → Option A → ℕ
field_flag None = 0
field_flag (Some v) = 1

-- ---- the sizes

abbrev pub times_bytes : Times → ℕ
times_bytes Untimed = 0
times_bytes (Pts p) = 5
times_bytes (Both p d) = 10

-- d, the data bytes of a header: its fields, and no stuffing
unfoldable pub data_of : Unit → ℕ
data_of u =
    times_bytes u.times + 6 * field_flag u.escr + 3 * field_flag u.rate + field_flag u.trick + field_flag u.copy + 2 * field_flag u.crc

-- PES_packet_length, of a unit with n bytes of payload: the bytes that follow it, or 0 for unbounded
unfoldable pub stated_length : Unit → ℕ → ℕ
stated_length u n = pick u.bounded (3 + data_of u + n) 0

-- the packets that so many bytes take, at 184 a packet
abbrev pub count_for : ℕ → ℕ
count_for bytes = (bytes + 183) / 184

-- THE COUNT: (9 + d + n) / 184 rounded up
unfoldable pub count_of : Unit → ℕ → ℕ
count_of u n = count_for (9 + data_of u + n)
