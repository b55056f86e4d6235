use Rattle.pes.proofs.Laws.{contents-parsed, contents-bare}
use Rattle.pes.proofs.contents.Goals as goal

pub returns-then-is_parsed : goal.returns-then-is_parsed
returns-then-is_parsed c = contents-parsed _ _ c.in_ok-id.ensures _ c.is_parsed.ensures c.if-is_parsed.true

pub returns-else-is_parsed : goal.returns-else-is_parsed
returns-else-is_parsed c = contents-bare _ _ c.in_ok-id.ensures _ c.is_parsed.ensures c.if-is_parsed.false
