use native.Mathlib.Omega.{arith}
use Rattle.paint_layer.proofs.Parts.{mask_whole, mask_spread, whole_long, masking}
use Rattle.paint_layer.proofs.pick_under.Goals as goal

pub overflow_add-at : goal.overflow_add-at
overflow_add-at c = let h = whole_long _ _ _ _ c.requires.0 c.if-m-eq1.true in omega arith

pub slice_bounds-pick_image-count : goal.slice_bounds-pick_image-count
slice_bounds-pick_image-count c = let h = whole_long _ _ _ _ c.requires.0 c.if-m-eq1.true in omega arith

pub slice_bounds-pick_image-start : goal.slice_bounds-pick_image-start
slice_bounds-pick_image-start c = let h = whole_long _ _ _ _ c.requires.0 c.if-m-eq1.true in omega arith

pub pick_image-requires : goal.pick_image-requires
pick_image-requires c = (c.requires.1, c.requires.2, c.requires.0.some, c.requires.0.near, omega arith, search masking, omega arith)

pub returns-then-m-eq1 : goal.returns-then-m-eq1
returns-then-m-eq1 c = mask_whole _ _ _ _ c.requires.0 _ _ _ _ c.if-m-eq1.true (let h = whole_long _ _ _ _ c.requires.0 c.if-m-eq1.true in omega arith) c.pick_image.ensures

pub pick_image-requires-2 : goal.pick_image-requires-2
pick_image-requires-2 c = (c.requires.1, c.requires.2, c.requires.0.some, c.requires.0.near, omega arith, search masking, omega arith)

pub returns : goal.returns
returns c = mask_spread _ _ _ _ c.requires.0 _ _ _ _ _ _ _ c.spread-at.ensures c.pick_image-2.ensures
