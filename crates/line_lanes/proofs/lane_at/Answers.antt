use Rattle.line_lanes.proofs.Laws.{lanes}
use Rattle.line_lanes.proofs.lane_at.Goals as goal

pub returns : goal.returns
returns c = search lanes
