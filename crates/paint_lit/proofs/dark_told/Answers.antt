use Rattle.paint_lit.proofs.Laws.{dark_unknown}
use Rattle.paint_lit.proofs.dark_told.Goals as goal

pub returns-else-told : goal.returns-else-told
returns-else-told c = dark_unknown _ _ _ _ c.requires.0
