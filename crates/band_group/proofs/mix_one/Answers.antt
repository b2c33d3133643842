use Rattle.band_group.proofs.Lines.{one_mixed}
use Rattle.band_group.proofs.mix_one.Goals as goal

pub returns : goal.returns
returns c = one_mixed _ _ _ _ _ _ c.requires.0 c.requires.1 _ _ c.mix_line.ensures c.copy_line.ensures
