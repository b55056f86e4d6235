-- What the output comes to, from what is written and what is left, is the same at each turn.
use mathlib.Core.Path.{◌≡◌}
use mathlib.Core.List.{◌++◌}
use Prim.Native.Nat.{◌-◌, ◌*◌}
use lib.ListN.{length, drop}
use Rattle.bits.specs.Pack.{flat}
use Rattle.writer.specs.Unit.{count_for}
use Rattle.writer.specs.Packets.{carried}
use Rattle.writer.proofs.Laws.{rest}
use Rattle.writer.proofs.put_rest.Given as goal

abbrev pub invariant-loop-part : goal.invariant-loop-part
invariant-loop-part l =
    let count = count_for (length l.body) in
    (l.place ≡ 188 * l.part-index)
    × (flat (carried count 0 l.fn.tag.pid l.fn.tag.counter l.body) ++ drop (188 * count) l.fn.out
    ≡ rest (count - l.part-index) l.tag.pid l.tag.counter (drop (184 * l.part-index) l.body) l.place l.out)
