use Rattle.paint_blocks.proofs.Laws.{block_ones}
use Rattle.paint_blocks.proofs.ones.Goals as goal

pub returns : goal.returns
returns c = block_ones _ _ _ _ c.eight.ensures c.eight-2.ensures
