use Rattle.lane_groups.proofs.Laws.{Grouping}
use Rattle.lane_groups.proofs.group_of.Given as goal

abbrev pub invariant-loop-l : goal.invariant-loop-l
invariant-loop-l l = Grouping l.lanes l.n l.y l.most l.g l.l
