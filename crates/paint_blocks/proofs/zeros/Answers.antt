use Rattle.paint_blocks.proofs.Laws.{block_zeros}
use Rattle.paint_blocks.proofs.zeros.Goals as goal

pub returns : goal.returns
returns c = block_zeros _ _ _ _ c.eight.ensures c.eight-2.ensures
