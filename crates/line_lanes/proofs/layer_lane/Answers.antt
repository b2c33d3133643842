use Rattle.line_lanes.proofs.Laws.{layering}
use Rattle.line_lanes.proofs.layer_lane.Goals as goal

pub ratio_of-ratio-requires : goal.ratio_of-ratio-requires
ratio_of-ratio-requires c = search layering

pub lane_by-requires : goal.lane_by-requires
lane_by-requires c = search layering

pub returns : goal.returns
returns c = search layering
