-- The byte goes behind the others, or first on a page that was written.
use Rattle.std.proofs.Common.{refl}
use Rattle.page.proofs.Laws.{room, full}
use Rattle.page.proofs.Page.put.Goals as goal
use Rattle.page.proofs.Page.put.Goals.{then-self-ge-PAGE, else-self-ge-PAGE}

pub returns-clause-page : goal.returns-clause-page
returns-clause-page g c =
    elim c.if-self-ge-PAGE.branch [
      | then-self-ge-PAGE w ↦ full _ _ _ _ (rw w.self-is w.flush.ensures.page) w.if-self-ge-PAGE.true
      | else-self-ge-PAGE w ↦ room _ _ _ _ (rw w.self-is refl) w.if-self-ge-PAGE.false
    ]
