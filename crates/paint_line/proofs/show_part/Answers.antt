use Rattle.paint_line.proofs.Laws.{floors_paired, floors_least, part_shown}
use Rattle.paint_line.proofs.show_part.Goals as goal

pub show_floors-requires : goal.show_floors-requires
show_floors-requires c = (c.requires.0, c.requires.1, floors_paired _ _ _ _ _ _ _ _ _ c.requires.10 c.requires.5 _ c.requires.2, floors_least _ _ _ _ _ _ _ _ _ c.requires.10 c.requires.5 _ c.requires.2, c.requires.4, c.requires.5, c.requires.7, c.requires.6, c.requires.8, c.requires.2.room, c.requires.9, c.make_table-step.ensures)

pub returns : goal.returns
returns c = part_shown _ _ _ _ _ _ _ _ _ c.requires.10 c.requires.5 _ _ _ c.requires.4 c.requires.2 c.requires.3 c.show_floors.ensures
