use Rattle.gather.proofs.Laws.{own-or}
use Rattle.gather.proofs.own_part.Goals as goal

pub returns : goal.returns
returns c = own-or _ _ c.payload_at.ensures _ c.unwrap_or.ensures
