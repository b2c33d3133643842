use Rattle.paint_two.proofs.Laws.{stepping_more}
use Rattle.paint_two.proofs.two_layers.Goals as goal

pub loop-x-preserved : goal.loop-x-preserved
loop-x-preserved g c = stepping_more _ _ _ _ _ _ c.loop-x.invariant _ _ c.step-x.ensures
