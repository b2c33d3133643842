use Rattle.paint_image.proofs.Laws.{imaging}
use Rattle.paint_image.proofs.lay_image.Goals as goal

pub returns : goal.returns
returns c = search imaging
