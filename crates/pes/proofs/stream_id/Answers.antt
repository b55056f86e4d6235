use Rattle.pes.proofs.Laws.{id-done}
use Rattle.pes.proofs.stream_id.Goals as goal

pub returns : goal.returns
returns c = id-done _ c.in_ok-from_bytes.ensures _ c.type_inv.buf c.from_id.ensures
