use Rattle.paint_gather.proofs.Laws.{gathered_grey}
use Rattle.paint_gather.proofs.gather.Goals as goal

pub returns-else-each-eq3 : goal.returns-else-each-eq3
returns-else-each-eq3 c = gathered_grey _ _ _ _ _ _ _ _ _ _ c.if-each-eq3.false c.gather_kind-else-each-eq3.ensures
