use Rattle.host_whole.proofs.Laws.{fixed_laws}
use Rattle.host_whole.proofs.of_contents.put_fixed.Goals as goal

pub returns : goal.returns
returns c =
    rw (
      c.put-7.ensures.told,
      c.put-6.ensures.told,
      c.put-5.ensures.told,
      c.put-4.ensures.told,
      c.put-3.ensures.told,
      c.put-2.ensures.told,
      c.put.ensures.told,
    ) (search fixed_laws depth 12)
