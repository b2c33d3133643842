use Rattle.line_sample.proofs.Laws.{depths}
use Rattle.line_sample.proofs.depth_of.Goals as goal

pub returns-then-r : goal.returns-then-r
returns-then-r c = search depths

pub returns-else-r : goal.returns-else-r
returns-else-r c = search depths
