use Rattle.pes.proofs.Laws.{none_there}
use Rattle.pes.proofs.contents_part.Goals as goal

pub returns-in-Err : goal.returns-in-Err
returns-in-Err c = none_there _ _ c.in-Err.ensures
