use native.Mathlib.Omega.{arith}
use Rattle.bits.proofs.Parts.{part_cut, part_out}
use Rattle.bits.proofs.part.Goals as goal

pub returns-then-buf-place : goal.returns-then-buf-place
returns-then-buf-place c = part_out _ _ _ (omega arith)

pub returns-then-buf-place-2 : goal.returns-then-buf-place-2
returns-then-buf-place-2 c = part_out _ _ _ (omega arith)

pub returns : goal.returns
returns c = part_cut _ _ _ (omega arith)
