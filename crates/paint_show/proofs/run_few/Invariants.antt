use Rattle.paint_show.specs.Show.{Runs}
use Rattle.paint_show.proofs.run_few.Given as goal

abbrev pub invariant-loop-i : goal.invariant-loop-i
invariant-loop-i l = Runs l.v l.s l.from l.to l.i
