use Rattle.paint_image.proofs.Laws.{laying}
use Rattle.paint_image.proofs.lay_inside.Goals as goal

pub returns-then-r-eq0 : goal.returns-then-r-eq0
returns-then-r-eq0 c = search laying

pub lay_area-requires : goal.lay_area-requires
lay_area-requires c = search laying

pub returns : goal.returns
returns c = search laying
