use Rattle.paint_choice.proofs.Laws.{reading}
use Rattle.paint_choice.proofs.mask_read.Goals as goal

pub returns-then-m-eq1 : goal.returns-then-m-eq1
returns-then-m-eq1 c = search reading

pub returns : goal.returns
returns c = search reading
