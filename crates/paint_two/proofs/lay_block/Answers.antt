use Rattle.paint_two.proofs.Laws.{block_laid}
use Rattle.paint_two.proofs.lay_block.Goals as goal

pub returns : goal.returns
returns c = block_laid _ _ _ _ _ _ _ _ c.lay_four.ensures c.lay_four-2.ensures c.lay_four-3.ensures c.lay_four-4.ensures
