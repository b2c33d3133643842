use Rattle.octets_run.proofs.Laws.{ending}
use Rattle.octets_run.proofs.run_end.Goals as goal

pub returns-then-n-from-le32 : goal.returns-then-n-from-le32
returns-then-n-from-le32 c = search ending

pub returns : goal.returns
returns c = search ending
