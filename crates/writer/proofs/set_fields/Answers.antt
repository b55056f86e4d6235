-- The image is FF, so each store is seen in it: three cases, by how much the payload leaves for an adaptation field.
use Rattle.writer.proofs.Laws.{packet_laws}
use Rattle.writer.proofs.set_fields.Goals as goal

pub returns-then-size-eq184 : goal.returns-then-size-eq184
returns-then-size-eq184 c = rw c.to_be_bytes.ensures (search packet_laws)

pub returns-then-size-eq183 : goal.returns-then-size-eq183
returns-then-size-eq183 c = rw c.to_be_bytes.ensures (search packet_laws)

pub returns : goal.returns
returns c = rw c.to_be_bytes.ensures (search packet_laws)
