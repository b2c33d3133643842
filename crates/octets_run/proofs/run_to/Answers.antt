use Rattle.octets_run.proofs.Laws.{running}
use Rattle.octets_run.proofs.run_to.Goals as goal

pub returns-then-s-i : goal.returns-then-s-i
returns-then-s-i c = search running

pub loop-i-preserved : goal.loop-i-preserved
loop-i-preserved c = search running
