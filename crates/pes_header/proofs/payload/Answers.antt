use Rattle.pes_header.proofs.Laws.{no_payload}
use Rattle.pes_header.proofs.payload.Goals as goal

pub returns-in_default : goal.returns-in_default
returns-in_default c = no_payload _ _ c.in_default.ensures
