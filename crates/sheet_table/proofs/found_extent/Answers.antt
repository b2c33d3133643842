use Rattle.sheet_table.proofs.Laws.{finding}
use Rattle.sheet_table.proofs.found_extent.Goals as goal

pub returns-then-extent-eq0 : goal.returns-then-extent-eq0
returns-then-extent-eq0 c = search finding

pub returns-else-extent-eq0 : goal.returns-else-extent-eq0
returns-else-extent-eq0 c = search finding
