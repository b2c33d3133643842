use Rattle.sheet_table.proofs.Laws.{finding}
use Rattle.sheet_table.proofs.with_record.Goals as goal

pub returns-then-s-k : goal.returns-then-s-k
returns-then-s-k c = search finding

pub returns-then-s-k-2 : goal.returns-then-s-k-2
returns-then-s-k-2 c = search finding

pub returns : goal.returns
returns c = search finding
