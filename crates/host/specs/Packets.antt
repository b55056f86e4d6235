-- The fourth byte of a packet: 1 and 2 where the bytes are no packet, else what its control bits say.
use Rattle.std.specs.Prelude.{List, ℕ, get_or}
use Rattle.bits.specs.Answer.{Answer, unless}
use Rattle.packet.specs.Packet.{not_packet}
use Rattle.host.specs.Clocks.{control_answer, scrambling_answer}

abbrev pub read_scrambling : List ℕ → Answer
read_scrambling xs = unless (not_packet xs) (scrambling_answer (get_or xs 3 0))

abbrev pub read_control : List ℕ → Answer
read_control xs = unless (not_packet xs) (control_answer (get_or xs 3 0))
