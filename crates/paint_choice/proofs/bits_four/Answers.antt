use Rattle.paint_choice.proofs.Marks.{spread_four}
use native.Mathlib.Omega.{arith}
use Rattle.paint_choice.proofs.bits_four.Goals as goal

pub loop-q-preserved : goal.loop-q-preserved
loop-q-preserved c = spread_four _ _ _ _ _ _ _ _ c.loop-q.invariant (omega arith) c.put_twice.ensures c.put_twice-in-loop-q.ensures
