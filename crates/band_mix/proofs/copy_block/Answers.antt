use Rattle.band_mix.proofs.Laws.{block_copied}
use Rattle.band_mix.proofs.copy_block.Goals as goal

pub returns : goal.returns
returns c = block_copied _ _ _ _ _ _ _ c.requires.0 c.copy_four.ensures c.copy_four-2.ensures c.copy_four-3.ensures c.copy_four-4.ensures
