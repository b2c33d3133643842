use Rattle.sheet_table.proofs.Laws.{finding}
use Rattle.sheet_table.proofs.height_in.Goals as goal

pub returns-then-r-eq2 : goal.returns-then-r-eq2
returns-then-r-eq2 c = search finding

pub returns-else-r-eq2 : goal.returns-else-r-eq2
returns-else-r-eq2 c = search finding
