use Rattle.lane_groups.proofs.Laws.{lining, same_sample_lem}
use Rattle.lane_groups.proofs.lines_of.Goals as goal

pub returns-then-y-w : goal.returns-then-y-w
returns-then-y-w c = search lining

pub returns-then-w-y : goal.returns-then-w-y
returns-then-w-y c = search lining

pub returns-then-w-eq0 : goal.returns-then-w-eq0
returns-then-w-eq0 c = search lining

pub returns : goal.returns
returns c = same_sample_lem _ _ _ _ c.requires c.if-y-w.false c.if-w-y.false c.lines_left.ensures c.min.ensures
