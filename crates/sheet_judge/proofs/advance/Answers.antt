use Rattle.sheet_judge.proofs.Laws.{judging}
use Rattle.sheet_judge.proofs.advance.Goals as goal

pub returns-then-r-eq1 : goal.returns-then-r-eq1
returns-then-r-eq1 c = search judging

pub returns-then-r-eq2 : goal.returns-then-r-eq2
returns-then-r-eq2 c = search judging

pub returns : goal.returns
returns c = search judging
