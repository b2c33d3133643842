use Rattle.paint_show.specs.Show.{Runs}
use Prim.Native.Nat.{◌-◌}
use Rattle.paint_show.proofs.run_on.Given as goal

abbrev pub invariant-loop-i : goal.invariant-loop-i
invariant-loop-i l = Runs l.v l.s l.from l.to l.i

abbrev pub decreases-loop-i : goal.decreases-loop-i
decreases-loop-i l = l.to - l.i
