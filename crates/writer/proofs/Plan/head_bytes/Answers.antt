use native.Mathlib.Omega.{arith}
use Rattle.bits.proofs.Packs.{written}
use Rattle.writer.proofs.Laws.{bool-bit}
use Rattle.writer.proofs.Plan.head_bytes.Goals as goal

pub returns : goal.returns
returns c = rw c.to_be_bytes.ensures (written _ _ (omega (arith, bool-bit)) (omega (arith, bool-bit)))
