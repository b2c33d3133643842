use Rattle.line_agree.proofs.Laws.{agreeing}
use Rattle.line_agree.proofs.agreed.Goals as goal

pub returns-then-eq : goal.returns-then-eq
returns-then-eq c = search agreeing

pub returns-else-eq : goal.returns-else-eq
returns-else-eq c = search agreeing

pub returns-in-None-up : goal.returns-in-None-up
returns-in-None-up c = search agreeing

pub returns-in-None : goal.returns-in-None
returns-in-None c = search agreeing
