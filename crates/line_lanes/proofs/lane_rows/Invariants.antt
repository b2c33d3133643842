use Rattle.line_lanes.proofs.Laws.{Rowed}
use Rattle.line_lanes.proofs.lane_rows.Given as goal

abbrev pub invariant-loop-l : goal.invariant-loop-l
invariant-loop-l l = Rowed l.initial.rows l.lanes l.y l.n l.rows l.l
