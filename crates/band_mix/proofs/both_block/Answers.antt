use Rattle.band_mix.proofs.Twos.{both_blocks}
use Rattle.band_mix.proofs.both_block.Goals as goal

pub returns : goal.returns
returns c = both_blocks _ _ _ _ c.requires.0 c.requires.2 c.requires.3 _ _ _ _ _ c.both_four.ensures c.both_four-2.ensures c.both_four-3.ensures c.both_four-4.ensures
