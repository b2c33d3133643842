use Rattle.paint_show.proofs.Octets.{running}
use Rattle.paint_show.proofs.run_few.Goals as goal

pub loop-i-init : goal.loop-i-init
loop-i-init c = search running

pub bounds-s-i : goal.bounds-s-i
bounds-s-i c = search running

pub returns-then-s-i : goal.returns-then-s-i
returns-then-s-i c = search running

pub loop-i-preserved : goal.loop-i-preserved
loop-i-preserved c = search running

pub returns : goal.returns
returns c = search running
