-- The header at the front of an image of FF, then the two bytes that vary.
use Rattle.examples.proofs.Sizes.{packet-eventful}
use Rattle.examples.proofs.log_size.packet.Goals as goal

pub returns : goal.returns
returns c = packet-eventful _ _ _ _ c.flags.ensures c.copy_at.ensures
