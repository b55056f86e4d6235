-- What is held is less than a packet.
use Rattle.std.proofs.Common.{◌<◌}
use Rattle.lister.proofs.blocks.Given as goal

abbrev pub invariant-loop : goal.invariant-loop
invariant-loop g l = l.held < 188
