use Rattle.paint_layers.proofs.Laws.{part_of}
use Rattle.paint_layers.proofs.Laws.{siding}
use Rattle.paint_layers.proofs.lay_inside.Goals as goal

pub returns-then-y-x : goal.returns-then-y-x
returns-then-y-x c = search siding

pub returns-then-m-eq0 : goal.returns-then-m-eq0
returns-then-m-eq0 c = search siding

pub pick_under-requires : goal.pick_under-requires
pick_under-requires c = (part_of _ _ _ _ c.requires.0 c.requires.1 c.requires.2 c.if-y-x.false c.requires.6 c.if-m-eq0.false, c.requires.3, c.requires.4, c.requires.7, c.requires.8, c.requires.9)

pub returns : goal.returns
returns c = search siding
