use Rattle.paint_layers.proofs.Laws.{mask_room, image_room, mask_fits, mask_plain, image_fits, image_plain, beside_before, beside_behind, between_both, step_three, step_as}
use native.Mathlib.Omega.{arith}
use Rattle.paint_layers.proofs.layer_pair.Goals as goal

pub row_at-m-requires : goal.row_at-m-requires
row_at-m-requires c = (omega arith, mask_room _ _ _ _ _ c.requires.0 c.requires.1 c.requires.2)

pub row_at-r-requires : goal.row_at-r-requires
row_at-r-requires c = (omega arith, image_room _ _ _ _ _ c.requires.0 c.requires.1 c.requires.2)

pub lay_beside-requires : goal.lay_beside-requires
lay_beside-requires c = (beside_before _ _ _ _ 0 c.within-x.ensures, image_fits _ _ _ _ _ c.requires.0 c.requires.1 c.requires.2 _ c.row_at-r.ensures, image_plain _ _ _ _ _ c.requires.0 c.requires.1 c.requires.2 _ c.row_at-r.ensures, c.within-x.ensures.low, let h = c.within-x.ensures.high in let k = c.requires.5 in omega arith, let h = c.within-x.ensures.high in let k = c.requires.6 in omega arith)

pub lay_inside-requires : goal.lay_inside-requires
lay_inside-requires c = (mask_fits _ _ _ _ _ c.requires.0 c.requires.1 c.requires.2 _ c.row_at-m.ensures, mask_plain _ _ _ _ _ c.requires.0 c.requires.1 c.requires.2 _ c.row_at-m.ensures, between_both _ _ _ _ _ c.within-x.ensures c.within-y.ensures, image_fits _ _ _ _ _ c.requires.0 c.requires.1 c.requires.2 _ c.row_at-r.ensures, image_plain _ _ _ _ _ c.requires.0 c.requires.1 c.requires.2 _ c.row_at-r.ensures, c.within-y.ensures.low, let h = c.within-y.ensures.high in let k = c.requires.5 in omega arith, let h = c.within-y.ensures.high in let k = c.requires.6 in let l = c.lay_beside.ensures.long in omega arith, let h = c.within-y.ensures.high in let i = c.within-x.ensures.low in let k = c.requires.7 in omega arith, c.requires.8)

pub lay_beside-requires-2 : goal.lay_beside-requires-2
lay_beside-requires-2 c = (beside_behind _ _ _ _ _ c.within-x.ensures c.within-y.ensures, image_fits _ _ _ _ _ c.requires.0 c.requires.1 c.requires.2 _ c.row_at-r.ensures, image_plain _ _ _ _ _ c.requires.0 c.requires.1 c.requires.2 _ c.row_at-r.ensures, c.within-y.ensures.high, c.requires.5, let k = c.requires.6 in let l = c.lay_beside.ensures.long in let o = c.lay_inside.ensures.long in omega arith)

pub returns : goal.returns
returns c = step_as _ _ _ _ _ _ _ _ _ _ _ c.row_at-m.ensures c.row_at-r.ensures (step_three _ _ _ _ _ _ _ _ _ _ _ _ _ c.within-x.ensures c.within-y.ensures c.lay_beside.ensures c.lay_inside.ensures c.lay_beside-2.ensures)
