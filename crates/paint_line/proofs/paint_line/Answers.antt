use native.Mathlib.Omega.{arith}
use mathlib.Core.Path.{refl}
use Rattle.paint_line.proofs.Laws.{painting_begun, painting_more, painting_end, unseen_word}
use Rattle.paint_line.proofs.paint_line.Goals as goal

pub loop-x-init : goal.loop-x-init
loop-x-init c = (painting_begun _ _ _ _ _ _ _, refl, refl, refl, refl, refl)

pub part_end-e-requires : goal.part_end-e-requires
part_end-e-requires c = (c.requires.0, c.requires.2, c.loop-x-test.true)

pub paint_part-requires : goal.paint_part-requires
paint_part-requires c = (c.requires.0, c.requires.1, c.requires.2, let h = c.part_end-e.ensures.0 in omega arith, let h = c.part_end-e.ensures.1 in let k = c.requires.4 in omega arith, let h = c.part_end-e.ensures.1 in let k = c.requires.3 in let l = c.loop-x.invariant.0.long in omega arith, let k = c.requires.5 in let l = c.loop-x.invariant.1 in omega arith, let k = c.requires.6 in let l = c.loop-x.invariant.2 in omega arith, let k = c.requires.7 in let l = c.loop-x.invariant.3 in omega arith, unseen_word _ _ c.word_of-u.ensures, let k = c.requires.8 in let l = c.loop-x.invariant.4 in omega arith, let k = c.requires.9 in let l = c.loop-x.invariant.5 in omega arith)

pub loop-x-smaller : goal.loop-x-smaller
loop-x-smaller c = let h = c.part_end-e.ensures.0 in let k = c.loop-x-test.true in omega arith

pub loop-x-preserved : goal.loop-x-preserved
loop-x-preserved c = (painting_more _ _ _ _ _ _ _ _ _ _ _ c.loop-x.invariant.0 c.part_end-e.ensures.0 c.part_end-e.ensures.1 c.paint_part.ensures, let l = c.loop-x.invariant.1 in omega arith, let l = c.loop-x.invariant.2 in omega arith, let l = c.loop-x.invariant.3 in omega arith, let l = c.loop-x.invariant.4 in omega arith, let l = c.loop-x.invariant.5 in omega arith)

pub returns : goal.returns
returns c = painting_end _ _ _ _ _ _ _ _ _ c.loop-x.invariant.0 (omega arith) c.requires.3
