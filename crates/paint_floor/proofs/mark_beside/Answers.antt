use Rattle.paint_floor.proofs.Laws.{besides}
use Rattle.paint_floor.proofs.mark_beside.Goals as goal

pub returns-then-other-ne0 : goal.returns-then-other-ne0
returns-then-other-ne0 c = search besides

pub returns-else-other-ne0 : goal.returns-else-other-ne0
returns-else-other-ne0 c = search besides
