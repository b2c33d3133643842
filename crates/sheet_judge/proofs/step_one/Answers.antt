use Rattle.sheet_judge.proofs.Laws.{judging}
use Rattle.sheet_judge.proofs.step_one.Goals as goal

pub returns-then-keeps_rules : goal.returns-then-keeps_rules
returns-then-keeps_rules c = search judging

pub returns-else-keeps_rules : goal.returns-else-keeps_rules
returns-else-keeps_rules c = search judging
