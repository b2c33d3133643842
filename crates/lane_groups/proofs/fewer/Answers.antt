use Rattle.lane_groups.proofs.Laws.{fewering}
use Rattle.lane_groups.proofs.fewer.Goals as goal

pub lines_of-requires : goal.lines_of-requires
lines_of-requires c = search fewering

pub returns : goal.returns
returns c = search fewering
