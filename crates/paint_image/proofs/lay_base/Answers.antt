use Rattle.paint_image.proofs.Laws.{laying}
use Rattle.paint_image.proofs.lay_base.Goals as goal

pub returns : goal.returns
returns c = search laying
