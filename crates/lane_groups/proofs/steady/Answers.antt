use Rattle.lane_groups.proofs.Laws.{steadies}
use Rattle.lane_groups.proofs.steady.Goals as goal

pub returns-then-w-eq0 : goal.returns-then-w-eq0
returns-then-w-eq0 c = search steadies

pub returns-then-w-y : goal.returns-then-w-y
returns-then-w-y c = search steadies

pub returns : goal.returns
returns c = search steadies
