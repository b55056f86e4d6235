use Rattle.writer.proofs.Laws.{packet_laws}
use Rattle.writer.proofs.put_packet.Goals as goal

pub returns : goal.returns
returns c = search packet_laws
