use Rattle.line_verdict.proofs.Laws.{judging}
use Rattle.line_verdict.proofs.judge_planes.Goals as goal

pub loop-i-init : goal.loop-i-init
loop-i-init c = search judging

pub returns-then-not-plane_ok : goal.returns-then-not-plane_ok
returns-then-not-plane_ok c = search judging

pub loop-i-preserved : goal.loop-i-preserved
loop-i-preserved c = search judging

pub returns-then-part : goal.returns-then-part
returns-then-part c = search judging

pub returns-else-part : goal.returns-else-part
returns-else-part c = search judging
