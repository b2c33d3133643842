use Rattle.band_mix.proofs.Laws.{four_copied}
use Rattle.band_mix.proofs.copy_four.Goals as goal

pub returns : goal.returns
returns c = four_copied _ _ _ _ _ _ _ _ _ c.requires.1 c.word-a.ensures c.word-b.ensures c.word-c.ensures c.word-e.ensures c.put_four.ensures
