use Rattle.paint_layers.proofs.Laws.{siding}
use Rattle.paint_layers.proofs.lay_beside.Goals as goal

pub returns-then-m-ne0 : goal.returns-then-m-ne0
returns-then-m-ne0 c = search siding

pub returns-else-m-ne0 : goal.returns-else-m-ne0
returns-else-m-ne0 c = search siding
