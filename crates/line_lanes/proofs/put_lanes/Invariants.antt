use Rattle.line_lanes.proofs.Laws.{Laying}
use Rattle.line_lanes.proofs.put_lanes.Given as goal

abbrev pub invariant-loop-l : goal.invariant-loop-l
invariant-loop-l l = Laying l.initial.lanes l.sheet l.extent l.list l.main l.coded3 l.n l.lanes l.l
