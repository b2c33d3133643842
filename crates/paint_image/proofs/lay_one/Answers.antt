use Rattle.paint_image.proofs.Laws.{ones}
use Rattle.paint_image.proofs.lay_one.Goals as goal

pub returns : goal.returns
returns c = search ones
