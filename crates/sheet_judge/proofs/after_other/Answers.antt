use Rattle.sheet_rules.specs.Judge.{after3}
use mathlib.Core.Path.{refl}
use Rattle.sheet_judge.proofs.after_other.Goals as goal

pub returns : goal.returns
unfolding after3
returns c = refl
