use Rattle.read_end.proofs.Laws.{ending}
use Rattle.read_end.proofs.trailing.Goals as goal

pub returns-then-s-from : goal.returns-then-s-from
returns-then-s-from c = search ending

pub returns-then-i-s : goal.returns-then-i-s
returns-then-i-s c = search ending

pub returns : goal.returns
returns c = search ending
