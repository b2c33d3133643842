use Rattle.sheet_rules.specs.Judge.{after1}
use Rattle.sheet_judge.proofs.after_first.Goals as goal

pub returns : goal.returns
unfolding after1
returns c = cc
