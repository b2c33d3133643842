use Rattle.paint_layers.proofs.Laws.{low_room, second_room, third_room, second_fits, second_plain, third_fits, third_plain, low_fits, low_plain, part_of, lowest_one, lowest_two}
use native.Mathlib.Omega.{arith}
use Rattle.paint_layers.proofs.lay_lowest.Goals as goal

pub row_at-low-requires : goal.row_at-low-requires
row_at-low-requires c = (omega arith, low_room _ _ _ _ _ c.requires.0 c.requires.1 c.requires.3)

pub row_at-m-requires : goal.row_at-m-requires
row_at-m-requires c = (omega arith, second_room _ _ _ _ _ c.requires.0 c.requires.1 c.requires.3)

pub row_at-up-requires : goal.row_at-up-requires
row_at-up-requires c = (omega arith, third_room _ _ _ _ _ c.requires.0 c.requires.1 c.requires.3)

pub two_under-requires : goal.two_under-requires
two_under-requires c = (part_of _ _ _ _ (second_fits _ _ _ _ _ c.requires.0 c.requires.1 c.requires.3 _ c.row_at-m.ensures) (second_plain _ _ _ _ _ c.requires.0 c.requires.1 c.requires.3 _ c.row_at-m.ensures) (c.spans.ensures c.if-spans.true) c.requires.5 c.requires.6 c.if-m-ne0.true, low_fits _ _ _ _ _ c.requires.0 c.requires.1 c.requires.3 _ c.row_at-low.ensures, low_plain _ _ _ _ _ c.requires.0 c.requires.1 c.requires.3 _ c.row_at-low.ensures, third_fits _ _ _ _ _ c.requires.0 c.requires.1 c.requires.3 _ c.row_at-up.ensures, third_plain _ _ _ _ _ c.requires.0 c.requires.1 c.requires.3 _ c.row_at-up.ensures, c.requires.7, c.requires.8, c.requires.9)

pub overflow_add-result : goal.overflow_add-result
overflow_add-result c = let h = c.requires.3 in let k = c.requires.4 in omega arith

pub returns-then-spans : goal.returns-then-spans
returns-then-spans c = lowest_two _ _ _ _ _ c.requires.10 _ _ _ _ _ _ _ _ _ _ c.requires.2 c.requires.3 c.row_at-m.ensures c.row_at-low.ensures c.row_at-up.ensures c.if-m-ne0.true c.spans.ensures c.if-spans.true c.two_under.ensures

pub lay_image-requires : goal.lay_image-requires
lay_image-requires c = (low_fits _ _ _ _ _ c.requires.0 c.requires.1 c.requires.3 _ c.row_at-low.ensures, low_plain _ _ _ _ _ c.requires.0 c.requires.1 c.requires.3 _ c.row_at-low.ensures, c.requires.6, let h = c.requires.5 in omega arith, let h = c.requires.5 in let k = c.requires.7 in omega arith)

pub returns : goal.returns
returns c = lowest_one _ _ _ _ _ c.requires.10 _ _ _ _ _ _ _ c.requires.2 c.row_at-low.ensures c.requires.5 c.lay_image.ensures
