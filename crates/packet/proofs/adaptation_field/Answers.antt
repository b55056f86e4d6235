use Rattle.packet.proofs.Laws.{no_part}
use Rattle.packet.proofs.adaptation_field.Goals as goal

pub returns-in_default : goal.returns-in_default
returns-in_default c = no_part _ _ _ c.in_default.ensures
