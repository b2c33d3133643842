use Rattle.line_pixel.proofs.Laws.{leading, room_shown}
use borrow.Author.Rules.{rules}
use Rattle.line_pixel.proofs.image_of.Goals as goal

pub overflow_mul-j : goal.overflow_mul-j
overflow_mul-j c = search (rules, room_shown _ _ _ _ _ _ c.requires.0 c.requires.1)

pub overflow_add-j : goal.overflow_add-j
overflow_add-j c = search (rules, room_shown _ _ _ _ _ _ c.requires.0 c.requires.1)

pub row_at-requires : goal.row_at-requires
row_at-requires c = search (rules, room_shown _ _ _ _ _ _ c.requires.0 c.requires.1)

pub image_at-requires : goal.image_at-requires
image_at-requires c = search leading

pub returns : goal.returns
returns c = search leading
