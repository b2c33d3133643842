use Rattle.band_mix.proofs.Twos.{both_laid}
use Rattle.band_mix.proofs.both_four.Goals as goal

pub returns : goal.returns
returns c = both_laid _ _ _ _ _ _ _ _ _ _ _ _ _ _ _ c.requires.0 c.requires.1 c.word-a.ensures c.word-b.ensures c.word-c.ensures c.word-e.ensures c.word-f.ensures c.word-g.ensures c.word-h.ensures c.word-k.ensures c.put_four.ensures c.put_four-2.ensures
