use Rattle.paint_image.proofs.Laws.{wholes}
use Rattle.paint_image.proofs.lay_whole.Goals as goal

pub returns : goal.returns
returns c = search wholes
