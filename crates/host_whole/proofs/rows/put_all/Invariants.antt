use Rattle.std.proofs.Common.{◌≡◌, ◌++◌, ◌+◌, take}
use Rattle.host_whole.proofs.rows.put_all.Given as goal

abbrev pub invariant-loop-i : goal.invariant-loop-i
invariant-loop-i g l = take (l.at + l.i) l.fields ≡ take l.at l.initial.fields ++ take l.i l.numbers
