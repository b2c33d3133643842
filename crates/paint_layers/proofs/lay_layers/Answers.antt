use native.Mathlib.Omega.{arith}
use Rattle.paint_layers.proofs.Laws.{layering_begun, layering_more, layering_end}
use Rattle.paint_layers.proofs.lay_layers.Goals as goal

pub lay_lowest-lowest-requires : goal.lay_lowest-lowest-requires
lay_lowest-lowest-requires c = (c.requires.0, c.requires.1, c.requires.2, c.requires.3, c.requires.4, c.requires.5, c.requires.6, c.requires.7, c.requires.8, c.requires.9, c.requires.10)

pub loop-j-init : goal.loop-j-init
loop-j-init c = layering_begun _ _ _ _ _ _ _ _ _ _ _ c.lay_lowest-lowest.ensures.most

pub layer_pair-requires : goal.layer_pair-requires
layer_pair-requires c = (c.requires.0, c.requires.1, c.loop-j-test.true, c.requires.4, let h = c.requires.5 in omega arith, c.requires.6, let h = c.requires.7 in let k = c.loop-j.invariant.long in let l = c.lay_lowest-lowest.ensures.done.long in omega arith, let h = c.requires.8 in let k = c.loop-j.invariant.broad in omega arith, let h = c.requires.9 in let k = c.loop-j.invariant.wide in omega arith)

pub loop-j-preserved : goal.loop-j-preserved
loop-j-preserved c = layering_more _ _ _ _ _ _ _ _ _ _ _ _ _ _ _ _ _ _ c.loop-j.invariant c.loop-j-test.true (omega arith) (omega arith) c.layer_pair.ensures

pub returns : goal.returns
returns c = layering_end _ _ _ _ _ _ _ _ _ _ _ _ _ _ _ _ _ c.loop-j.invariant (omega arith) c.requires.10 c.lay_lowest-lowest.ensures
