use Rattle.line_lanes.proofs.Laws.{bottoms}
use Rattle.line_lanes.proofs.bottom_of.Goals as goal

pub returns-then-r-eq0 : goal.returns-then-r-eq0
returns-then-r-eq0 c = search bottoms

pub returns : goal.returns
returns c = search bottoms
