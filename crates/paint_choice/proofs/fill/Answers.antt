use Rattle.paint_choice.proofs.Marks.{fill_put}
use Rattle.paint_choice.proofs.fill.Goals as goal

pub returns : goal.returns
returns c = fill_put _ _ _ _ _ c.requires.0 c.requires.1 (c.fill.ensures.after (λ y h. h))
