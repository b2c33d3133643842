use Rattle.paint_two.proofs.Laws.{flat_laid}
use Rattle.paint_two.proofs.FlatSource.lay.Goals as goal

pub returns : goal.returns
returns c = flat_laid _ _ _ _ _ _ c.flat_block.ensures
