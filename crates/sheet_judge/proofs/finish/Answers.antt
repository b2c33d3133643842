use Rattle.sheet_judge.proofs.Laws.{judging}
use Rattle.sheet_judge.proofs.finish.Goals as goal

pub returns-then-may_close-part : goal.returns-then-may_close-part
returns-then-may_close-part c = search judging

pub returns-else-may_close-part : goal.returns-else-may_close-part
returns-else-may_close-part c = search judging
