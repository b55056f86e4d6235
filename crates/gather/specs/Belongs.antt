-- Which bytes belong to a unit.
use Rattle.std.specs.Prelude.{List, ℕ, eqb, get_or, take, drop}
use Rattle.bits.specs.Answer.{pick}
use Rattle.bits.specs.Numbers.{done}
use Rattle.pes_header.specs.Payload.{header_payload, payload_bytes}
use Rattle.event_log.specs.declared.Event.{Event}

-- the bytes that an event names in its packet
unfoldable pub event_bytes : List ℕ → Event → List ℕ
event_bytes p e = take e.length (drop e.place p)

-- THE BYTES OF A BEGIN THAT BELONG TO ITS UNIT, among those that the begin names: the payload, parsed or bare; none where head or contents
-- are refused
unfoldable pub own_bytes : List ℕ → List ℕ
own_bytes xs = payload_bytes xs

-- where they start: those of a refused header at its start
unfoldable pub own_place : List ℕ → ℕ
own_place xs = pick (eqb (header_payload xs).number done) (get_or (header_payload xs).values 0 0) 0
