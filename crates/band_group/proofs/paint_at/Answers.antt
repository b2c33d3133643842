use Rattle.band_group.proofs.Lines.{at_room, at_painted}
use borrow.Author.Rules.{rules}
use Rattle.band_group.proofs.paint_at.Goals as goal

pub paint_line-requires : goal.paint_line-requires
paint_line-requires c = (c.requires.0, c.requires.1, c.requires.2, (let h = c.requires.4 in search (rules, at_room)), c.requires.3, c.requires.5, c.requires.6, c.requires.7, c.requires.8, c.requires.9)

pub returns : goal.returns
returns c = at_painted _ _ _ c.requires.4 _ _ _ _ _ _ c.paint_line.ensures
