use Rattle.laws.proofs.Asked.{asked}
use Rattle.read_end.proofs.Laws.{ending}
use Rattle.read_end.proofs.judge_end.Goals as goal

pub returns-in_err-field : goal.returns-in_err-field
returns-in_err-field c = search (asked, ending)

pub returns : goal.returns
returns c = search ending
