use native.Mathlib.Omega.{arith}
use Rattle.paint_lit.proofs.Laws.{row_there}
use Rattle.paint_line.proofs.part_end.Goals as goal

pub row_at-m-requires : goal.row_at-m-requires
row_at-m-requires c = (let h = c.loop-j-test.true in omega arith, row_there _ _ _ _ c.requires.0 _ (let h = c.loop-j.invariant.0 in omega arith))

pub row_at-r-requires : goal.row_at-r-requires
row_at-r-requires c = (omega arith, row_there _ _ _ _ c.requires.0 _ (let h = c.loop-j.invariant.0 in omega arith))

pub within-c-requires : goal.within-c-requires
within-c-requires c = let h = c.requires.2 in omega arith

pub within-hid-requires : goal.within-hid-requires
within-hid-requires c = c.within-c.ensures.high

pub margin_end-requires : goal.margin_end-requires
margin_end-requires c = (let h = c.within-c.ensures.low in let k = c.within-hid.ensures.low in omega arith, c.within-hid.ensures.high, c.requires.2, c.loop-j.invariant.3, c.loop-j.invariant.4)

pub returns-then-veils : goal.returns-then-veils
returns-then-veils c = c.margin_end.ensures

pub within-left-requires : goal.within-left-requires
within-left-requires c = c.loop-j.invariant.2

pub cut-right-requires : goal.cut-right-requires
cut-right-requires c = c.loop-j.invariant.3

pub within-left-requires-in-loop-j : goal.within-left-requires-in-loop-j
within-left-requires-in-loop-j c = c.within-left.ensures.high

pub cut-right-requires-in-loop-j : goal.cut-right-requires-in-loop-j
cut-right-requires-in-loop-j c = c.cut-right.ensures.0

pub loop-j-preserved : goal.loop-j-preserved
loop-j-preserved c = (let h = c.loop-j.invariant.0 in omega arith, let h = c.loop-j.invariant.1 in let k = c.within-left.ensures.low in let l = c.within-left-in-loop-j.ensures.low in omega arith, c.within-left-in-loop-j.ensures.high, c.cut-right-in-loop-j.ensures.0, let h = c.cut-right-in-loop-j.ensures.1 in let k = c.cut-right.ensures.1 in let l = c.loop-j.invariant.4 in omega arith)

pub row_at-r-requires-2 : goal.row_at-r-requires-2
row_at-r-requires-2 c = (omega arith, row_there _ _ _ _ c.requires.0 1 (omega arith))

pub within-left-requires-2 : goal.within-left-requires-2
within-left-requires-2 c = c.loop-j.invariant.2

pub cut-right-requires-2 : goal.cut-right-requires-2
cut-right-requires-2 c = c.loop-j.invariant.3

pub cut-requires : goal.cut-requires
cut-requires c = c.cut-right-2.ensures.0

pub returns : goal.returns
returns c = (c.cut.ensures.0, let h = c.cut.ensures.1 in let k = c.cut-right-2.ensures.1 in let l = c.loop-j.invariant.4 in omega arith)
