use Rattle.paint_two.proofs.Laws.{image_laid}
use Rattle.paint_two.proofs.ImageSource.lay.Goals as goal

pub returns : goal.returns
returns c = image_laid _ _ _ _ _ _ _ c.lay_block.ensures
