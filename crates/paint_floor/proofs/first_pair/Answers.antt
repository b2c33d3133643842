use Rattle.paint_floor.proofs.Laws.{starting}
use Rattle.paint_floor.proofs.first_pair.Goals as goal

pub returns-then-covers : goal.returns-then-covers
returns-then-covers c = search starting

pub returns : goal.returns
returns c = search starting
