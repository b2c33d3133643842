use Rattle.line_planes.proofs.Laws.{Seeking}
use Rattle.line_planes.proofs.start_of.Given as goal

abbrev pub invariant-loop-i : goal.invariant-loop-i
invariant-loop-i l = Seeking l.list l.layer l.i-end l.i
