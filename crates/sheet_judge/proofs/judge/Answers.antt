use Rattle.sheet_judge.proofs.Laws.{judging}
use Rattle.sheet_judge.proofs.judge.Goals as goal

pub loop-i-init : goal.loop-i-init
loop-i-init c = search judging

pub loop-i-preserved : goal.loop-i-preserved
loop-i-preserved c = search judging

pub returns-in_default : goal.returns-in_default
returns-in_default c = search judging

pub returns : goal.returns
returns c = search judging
