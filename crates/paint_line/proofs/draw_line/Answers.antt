use borrow.Author.Rules.{rules}
use borrow.Author.Rules.{rules}
use Rattle.paint_line.proofs.draw_line.Goals as goal

pub paint_line-requires : goal.paint_line-requires
paint_line-requires c = (c.requires.0, c.requires.1, c.requires.2, c.requires.3, c.requires.4, search rules, search rules, search rules, search rules, search rules)
