use mathlib.Core.Path.{◌≡◌, ap}
use native.Mathlib.Omega.{arith}
use Rattle.std.proofs.lemmas.Grind.{common_steps}
use Rattle.control.proofs.Laws.{counter-is}
use Rattle.machine.specs.Events.{as_counter}
use Rattle.machine.proofs.row.last_of.Goals as goal

pub returns-in-0-to-15 : goal.returns-in-0-to-15
returns-in-0-to-15 c =
    let e : c.from_byte_four.result ≡ as_counter c.args.n = ap as_counter (omega (arith, c.from_byte_four.ensures, counter-is c.args.n)) in
    grind (arith, common_steps, e)
