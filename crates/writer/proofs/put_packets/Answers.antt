-- The first packet has the header and the first bytes of the payload, and `put_rest` what is left of it.
use native.Mathlib.Omega.{arith}
use borrow.Author.Rules.{rules}
use Rattle.writer.proofs.Laws.{packets-made}
use Rattle.writer.proofs.put_packets.Goals as goal

pub returns : goal.returns
returns c =
    packets-made _ _ _ _ _ _ _ _ _ _ _ _ _ _ _ c.requires.0 c.header-head.ensures.image c.as_slice-head.ensures.value (omega arith) c.min.ensures
    c.split_at.ensures.front c.split_at.ensures.back c.put_packet.ensures (search rules) c.put_rest.ensures
