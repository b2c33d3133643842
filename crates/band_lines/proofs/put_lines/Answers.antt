use borrow.Author.Rules.{rules}
use native.Mathlib.Omega.{arith}
use Rattle.band_lines.proofs.Stack.{stacking_more, stacking_line, stacking_all, stacking}
use Rattle.band_lines.proofs.put_lines.Goals as goal

pub overflow_cast-height : goal.overflow_cast-height
overflow_cast-height c = search stacking

pub slice_bounds-put_lanes-end : goal.slice_bounds-put_lanes-end
slice_bounds-put_lanes-end c = search stacking

pub put_lanes-requires : goal.put_lanes-requires
put_lanes-requires c = search stacking

pub loop-y-init : goal.loop-y-init
loop-y-init c = (search stacking, search rules, search rules, search rules, search rules, search rules, search rules, search rules)

pub slice_bounds-put_some-end : goal.slice_bounds-put_some-end
slice_bounds-put_some-end c = search stacking

pub slice_bounds-put_some-end-in-loop-y : goal.slice_bounds-put_some-end-in-loop-y
slice_bounds-put_some-end-in-loop-y c = search stacking

pub slice_bounds-put_some-end-in-loop-y-2 : goal.slice_bounds-put_some-end-in-loop-y-2
slice_bounds-put_some-end-in-loop-y-2 c = search stacking

pub slice_bounds-put_some-end-in-loop-y-3 : goal.slice_bounds-put_some-end-in-loop-y-3
slice_bounds-put_some-end-in-loop-y-3 c = search stacking

pub slice_bounds-put_some-end-in-loop-y-4 : goal.slice_bounds-put_some-end-in-loop-y-4
slice_bounds-put_some-end-in-loop-y-4 c = search stacking

pub slice_bounds-put_some-end-in-loop-y-5 : goal.slice_bounds-put_some-end-in-loop-y-5
slice_bounds-put_some-end-in-loop-y-5 c = search stacking

pub slice_bounds-put_some-end-in-loop-y-6 : goal.slice_bounds-put_some-end-in-loop-y-6
slice_bounds-put_some-end-in-loop-y-6 c = search stacking

pub put_some-y-requires : goal.put_some-y-requires
put_some-y-requires c = (stacking_line _ _ _ _ _ _ _ _ _ c.loop-y.invariant.0 _ c.requires _ c.put_lanes.ensures _ (let l = c.loop-y.invariant.1 in omega arith) c.loop-y-test.true, (let l = c.loop-y.invariant.2 in omega arith), (let l = c.loop-y.invariant.3 in omega arith), (let l = c.loop-y.invariant.4 in omega arith), (let l = c.loop-y.invariant.5 in omega arith), (let l = c.loop-y.invariant.6 in omega arith))

pub overflow_add-y : goal.overflow_add-y
overflow_add-y c = let m = c.put_some-y.ensures.most in let h = c.loop-y.invariant.7 in record { fits = omega arith }

pub loop-y-smaller : goal.loop-y-smaller
loop-y-smaller c = let m = c.put_some-y.ensures.most in let o = c.put_some-y.ensures.some in let h = c.loop-y-test.true in omega arith

pub loop-y-preserved : goal.loop-y-preserved
loop-y-preserved c = (stacking_more _ _ _ _ _ _ _ _ _ c.loop-y.invariant.0 _ _ c.put_some-y.ensures, (let l = c.loop-y.invariant.1 in omega arith), (let l = c.loop-y.invariant.2 in omega arith), (let l = c.loop-y.invariant.3 in omega arith), (let l = c.loop-y.invariant.4 in omega arith), (let l = c.loop-y.invariant.5 in omega arith), (let l = c.loop-y.invariant.6 in omega arith), c.loop-y.invariant.7)

pub returns : goal.returns
returns c = stacking_all _ _ _ _ _ _ _ _ _ c.loop-y.invariant.0 _ c.requires _ c.put_lanes.ensures c.loop-y-test.false
