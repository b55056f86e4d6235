use native.Mathlib.Omega.{arith}
use Rattle.pes_header.proofs.Laws.{bare, contents-accepted, accepted-fits}
use Rattle.pes_header.proofs.payload_at.Goals as goal

-- the payload's place is one of the bytes
pub overflow_add-result : goal.overflow_add-result
overflow_add-result c =
    let e = rw c.in-Parsed.is at c.in_ok-rest.ensures in
    omega (arith, accepted-fits _ _ _ e _ c.of.ensures _ _ c.in_ok-payload-in-Parsed.ensures)

pub returns-in-Payload : goal.returns-in-Payload
returns-in-Payload c = bare _ _ _ (rw c.in-Payload.is at c.in_ok-rest.ensures)

pub returns-in_ok-payload-in-Parsed : goal.returns-in_ok-payload-in-Parsed
returns-in_ok-payload-in-Parsed c =
    let e = rw c.in-Parsed.is at c.in_ok-rest.ensures in
    contents-accepted _ _ _ e _ c.of.ensures _ _ c.in_ok-payload-in-Parsed.ensures
