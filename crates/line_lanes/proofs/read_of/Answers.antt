use Rattle.line_lanes.proofs.Laws.{starting}
use Rattle.line_lanes.proofs.read_of.Goals as goal

pub returns-in-None : goal.returns-in-None
returns-in-None c = search starting

pub returns-in-Some : goal.returns-in-Some
returns-in-Some c = search starting
