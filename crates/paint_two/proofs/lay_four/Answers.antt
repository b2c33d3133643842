use Rattle.paint_two.proofs.Laws.{four_laid}
use Rattle.paint_two.proofs.lay_four.Goals as goal

pub returns : goal.returns
returns c = four_laid _ _ _ _ _ _ _ _ _ c.requires.0 c.seen_wide-a.ensures c.seen_wide-b.ensures c.seen_wide-c.ensures c.seen_wide-e.ensures c.put_four.ensures
