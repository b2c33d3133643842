use native.Mathlib.Omega.{arith}
use Rattle.paint_show.proofs.Octets.{running}
use Rattle.paint_show.proofs.mixed_end.Goals as goal

pub ahead-requires : goal.ahead-requires
ahead-requires c = search running

pub returns-then-whole : goal.returns-then-whole
returns-then-whole c = (c.ahead.ensures.3 c.requires.0, c.ahead.ensures.1, let h = c.ahead.ensures.2 in omega arith)

pub ahead-most-requires : goal.ahead-most-requires
ahead-most-requires c = search running

pub ahead-e-requires : goal.ahead-e-requires
ahead-e-requires c = search running

pub loop-e-init : goal.loop-e-init
loop-e-init c = (c.ahead-e.ensures.3 (c.ahead-most.ensures.3 c.requires.0), c.ahead-e.ensures.1, c.ahead-most.ensures.1, c.ahead-most.ensures.2)

pub ahead-near-requires : goal.ahead-near-requires
ahead-near-requires c = search running

pub bounds-sel-e : goal.bounds-sel-e
bounds-sel-e c = search running

pub run_on-requires : goal.run_on-requires
run_on-requires c = search running

pub returns-then-near-run_on : goal.returns-then-near-run_on
returns-then-near-run_on c = search running

pub ahead-e-requires-in-loop-e : goal.ahead-e-requires-in-loop-e
ahead-e-requires-in-loop-e c = search running

pub loop-e-smaller : goal.loop-e-smaller
loop-e-smaller c = let h = c.ahead-e-in-loop-e.ensures.3 c.loop-e-test.true in let k = c.ahead-e-in-loop-e.ensures.1 in omega arith

pub loop-e-preserved : goal.loop-e-preserved
loop-e-preserved c = search running

pub returns : goal.returns
returns c = search running
