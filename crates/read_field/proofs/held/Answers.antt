use Rattle.laws.proofs.Asked.{asked}
use Rattle.read_field.proofs.Laws.{held_refused, leaves}
use Rattle.read_field.proofs.held.Goals as goal

pub returns-in_err-r : goal.returns-in_err-r
returns-in_err-r c = asked _ c.from_residual.ensures (held_refused _ _ _ _ c.in_err-r.was)

pub returns-then-good : goal.returns-then-good
returns-then-good c = search leaves

pub returns-else-good : goal.returns-else-good
returns-else-good c = search leaves
