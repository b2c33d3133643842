use Rattle.paint_gather.proofs.Laws.{four_gathered}
use Rattle.paint_gather.proofs.gather_four.Goals as goal

pub returns : goal.returns
returns g c = four_gathered _ _ _ _ _ _ _ _ _ _ _ _ _ _ _ _ c.requires.1 c.sample-a.ensures c.sample-b.ensures c.sample-c.ensures c.sample-e.ensures c.put_word.ensures c.put_word-2.ensures c.put_word-3.ensures c.put_word-4.ensures
