-- Whether the id is parsed is what the crate pes answers of it.
use mathlib.Core.Path.{◌∙◌}
use native.Mathlib.Omega.{arith}
use Rattle.pes.proofs.Laws.{parsed-agrees}
use Rattle.writer.proofs.is_parsed.Goals as goal

pub returns : goal.returns
returns c = c.is_parsed.ensures ∙ parsed-agrees _ _ (omega arith) c.from_id.ensures
