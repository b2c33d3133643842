use Rattle.paint_two.proofs.Laws.{image_at}
use Rattle.paint_two.proofs.ImageSource.at.Goals as goal

pub returns : goal.returns
returns c = image_at _ _ _ _ c.seen_wide.ensures
