use Rattle.paint_two.proofs.Laws.{both_as, image_shown, flat_shown}
use Rattle.paint_two.proofs.image_above.Goals as goal

pub returns : goal.returns
returns c = both_as _ _ _ _ _ _ _ _ _ _ (flat_shown _ _) (image_shown _ _ _) c.two_layers.ensures
