use native.Mathlib.Omega.{arith}
use Rattle.bits.proofs.Packs.{written}
use Rattle.timestamp.specs.Stamp.{stamp_bytes}
use Rattle.writer.proofs.stamp.Goals as goal

pub returns : goal.returns
unfolding stamp_bytes
returns c = rw c.to_be_bytes.ensures (written _ _ (omega arith) (omega arith))
