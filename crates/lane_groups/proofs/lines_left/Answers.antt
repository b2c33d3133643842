use Rattle.lane_groups.proofs.Laws.{leaving, left_one, left_some}
use Rattle.lane_groups.proofs.lines_left.Goals as goal

pub returns-then-ratio-eq1 : goal.returns-then-ratio-eq1
returns-then-ratio-eq1 c = left_one _ _ c.if-ratio-eq1.true

pub overflow_sub-result : goal.overflow_sub-result
overflow_sub-result c = search leaving

pub returns : goal.returns
returns c = left_some _ _ c.requires
