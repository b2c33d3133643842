use native.Mathlib.Omega.{arith}
use Rattle.paint_layer.proofs.Parts.{mask_whole, mask_spread, whole_long, masking}
use Rattle.paint_layer.proofs.two_under.Goals as goal

pub overflow_add-at : goal.overflow_add-at
overflow_add-at c = let h = whole_long _ _ _ _ c.requires.0 c.if-m-eq1.true in omega arith

pub slice_bounds-two_masked-count : goal.slice_bounds-two_masked-count
slice_bounds-two_masked-count c = let h = whole_long _ _ _ _ c.requires.0 c.if-m-eq1.true in omega arith

pub slice_bounds-two_masked-start : goal.slice_bounds-two_masked-start
slice_bounds-two_masked-start c = let h = whole_long _ _ _ _ c.requires.0 c.if-m-eq1.true in omega arith

pub two_masked-requires : goal.two_masked-requires
two_masked-requires c = (c.requires.1, c.requires.2, c.requires.3, c.requires.4, c.requires.0.some, c.requires.0.near, omega arith, search masking, omega arith)

pub returns-then-m-eq1 : goal.returns-then-m-eq1
returns-then-m-eq1 c = mask_whole _ _ _ _ c.requires.0 _ _ _ _ c.if-m-eq1.true (let h = whole_long _ _ _ _ c.requires.0 c.if-m-eq1.true in omega arith) c.two_masked.ensures

pub two_masked-requires-2 : goal.two_masked-requires-2
two_masked-requires-2 c = (c.requires.1, c.requires.2, c.requires.3, c.requires.4, c.requires.0.some, c.requires.0.near, omega arith, search masking, omega arith)

pub returns : goal.returns
returns c = mask_spread _ _ _ _ c.requires.0 _ _ _ _ _ _ _ c.spread-at.ensures c.two_masked-2.ensures
