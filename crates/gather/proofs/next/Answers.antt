use borrow.Author.Rules.{rules}
use Rattle.gather.specs.Gather.{gather_of, store_of}
use Rattle.gather.proofs.Laws.{next_laws}
use Rattle.gather.proofs.next.Goals as goal

pub returns : goal.returns
unfolding gather_of store_of
returns c = rw (c.apply.ensures.0, c.apply.ensures.1) (search (rules, next_laws))
