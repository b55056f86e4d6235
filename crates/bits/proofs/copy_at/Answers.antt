use mathlib.Core.Path.{refl, ◌∙◌}
use native.Mathlib.Omega.{arith}
use borrow.Author.Rules.{rules}
use lib.ListN.{length}
use Rattle.std.proofs.lemmas.Slice.{put_mid-paste}
use Rattle.bits.proofs.Parts.{placed_in, placed_out}
use Rattle.bits.proofs.copy_at.Goals as goal

pub returns-then-into-place : goal.returns-then-into-place
returns-then-into-place c = placed_out _ _ _ (omega arith)

pub returns-then-into-place-2 : goal.returns-then-into-place-2
returns-then-into-place-2 c = placed_out _ _ _ (omega arith)

pub returns : goal.returns
returns c =
    let s = c.args.from.now in
    put_mid-paste _ _ _ _ s (length s) (search rules) (omega arith) refl ∙ placed_in _ c.args.place s (omega arith)
