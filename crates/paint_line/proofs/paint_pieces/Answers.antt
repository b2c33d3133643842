use native.Mathlib.Omega.{arith}
use mathlib.Core.Path.{refl}
use Rattle.paint_lit.proofs.Laws.{starts_piece}
use Rattle.paint_line.proofs.Parts.{piecing_begun, piecing_more, piecing_end, part_some, part_most}
use Rattle.paint_line.proofs.paint_pieces.Goals as goal

pub loop-x-init : goal.loop-x-init
loop-x-init c = (piecing_begun _ _ _ _ _ _ _ _ c.requires.5, refl, refl, refl, refl, refl)

pub overflow_add-x : goal.overflow_add-x
overflow_add-x c = let h = c.loop-x-test.true in let k = c.requires.6 in omega arith

pub within-e-requires : goal.within-e-requires
within-e-requires c = let h = c.loop-x-test.true in omega arith

pub paint_piece-requires : goal.paint_piece-requires
paint_piece-requires c = (c.requires.0, c.requires.1, starts_piece _ _ _ _ _ _ _ _ _ c.requires.2 c.loop-x.invariant.0.past c.within-e.ensures.high, c.requires.3, c.requires.4, part_some _ _ _ _ (omega arith) c.within-e.ensures c.loop-x-test.true, let h = c.within-e.ensures.high in let k = c.requires.6 in omega arith, let h = c.within-e.ensures.high in let k = c.requires.7 in let l = c.loop-x.invariant.0.done.long in omega arith, let h = part_most _ _ _ _ c.within-e.ensures in let k = c.requires.8 in let l = c.loop-x.invariant.1 in omega arith, let h = part_most _ _ _ _ c.within-e.ensures in let k = c.requires.9 in let l = c.loop-x.invariant.2 in omega arith, let k = c.requires.10 in let l = c.loop-x.invariant.3 in omega arith, c.requires.11, let k = c.requires.12 in let l = c.loop-x.invariant.4 in omega arith, let k = c.requires.13 in let l = c.loop-x.invariant.5 in omega arith)

pub loop-x-smaller : goal.loop-x-smaller
loop-x-smaller c = let h = part_some _ _ _ _ (omega arith) c.within-e.ensures c.loop-x-test.true in let k = c.loop-x-test.true in omega arith

pub loop-x-preserved : goal.loop-x-preserved
loop-x-preserved c = (piecing_more _ _ _ _ _ _ _ _ _ _ _ _ _ c.loop-x.invariant.0 c.within-e.ensures c.paint_piece.ensures, let l = c.loop-x.invariant.1 in omega arith, let l = c.loop-x.invariant.2 in omega arith, let l = c.loop-x.invariant.3 in omega arith, let l = c.loop-x.invariant.4 in omega arith, let l = c.loop-x.invariant.5 in omega arith)

pub returns : goal.returns
returns c = piecing_end _ _ _ _ _ _ _ _ _ _ c.loop-x.invariant.0 (omega arith)
