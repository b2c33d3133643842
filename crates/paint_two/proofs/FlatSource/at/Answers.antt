use Rattle.paint_two.proofs.Laws.{flat_at}
use Rattle.paint_two.proofs.FlatSource.at.Goals as goal

pub returns : goal.returns
returns c = flat_at _ _
