use Rattle.paint_choice.proofs.Marks.{spread_more, spread_next}
use native.Mathlib.Omega.{arith}
use Rattle.paint_choice.proofs.bits_by.Goals as goal

pub loop-q-preserved : goal.loop-q-preserved
loop-q-preserved c = spread_next _ _ _ _ _ _ _ (spread_more _ _ _ _ _ _ _ _ c.loop-q.invariant _ (omega arith) c.fill.ensures)
