use native.Mathlib.Omega.{arith}
use borrow.Author.Rules.{rules}
use Rattle.writer.proofs.Laws.{rest-more, rest-last, rest_done}
use Rattle.writer.proofs.put_rest.Goals as goal

pub loop-part-preserved : goal.loop-part-preserved
loop-part-preserved c =
    let kept = c.loop-part.invariant in
    let chunks = c.as_chunks.ensures in (
      omega arith,
      rest-more _ _ _ _ _ _ _ kept.0 (omega arith) kept.1 _ _ _ _ chunks.front chunks.front_len c.loop-part-test.true
          c.put_packet.ensures (search rules),
    )

pub returns-then-not-is_empty : goal.returns-then-not-is_empty
returns-then-not-is_empty c =
    let kept = c.loop-part.invariant in
    let chunks = c.as_chunks.ensures in
    rest-last _ _ _ _ _ _ _ kept.0 (omega arith) kept.1 _ chunks.back (omega (arith, chunks.front_len)) _ (search rules)
    c.put_packet-then-not-is_empty.ensures

pub returns-else-not-is_empty : goal.returns-else-not-is_empty
returns-else-not-is_empty c =
    let kept = c.loop-part.invariant in
    let chunks = c.as_chunks.ensures in
    rest_done _ _ _ _ _ _ _ kept.0 (omega arith) kept.1 _ chunks.back (omega (arith, chunks.front_len)) (search rules)
