use Rattle.paint_show.proofs.Octets.{run_rest}
use native.Mathlib.Omega.{arith}
use Rattle.paint_show.proofs.Octets.{running}
use Rattle.paint_show.proofs.run_on.Goals as goal

pub word_of-four-requires : goal.word_of-four-requires
word_of-four-requires c = search running

pub loop-i-init : goal.loop-i-init
loop-i-init c = search running

pub overflow_sub-to : goal.overflow_sub-to
overflow_sub-to c = search running

pub same_16-requires : goal.same_16-requires
same_16-requires c = search running

pub overflow_add-i : goal.overflow_add-i
overflow_add-i c = search running

pub loop-i-smaller : goal.loop-i-smaller
loop-i-smaller c = search running

pub loop-i-preserved : goal.loop-i-preserved
loop-i-preserved c = search running

pub overflow_add-i-else-same_16 : goal.overflow_add-i-else-same_16
overflow_add-i-else-same_16 c = search running

pub run_few-requires : goal.run_few-requires
run_few-requires c = search running

pub returns-else-same_16 : goal.returns-else-same_16
returns-else-same_16 c = run_rest _ _ _ _ _ _ _ c.loop-i.invariant (omega arith) c.run_few.ensures

pub run_few-requires-else-to-i-ge16 : goal.run_few-requires-else-to-i-ge16
run_few-requires-else-to-i-ge16 c = search running

pub returns-else-to-i-ge16 : goal.returns-else-to-i-ge16
returns-else-to-i-ge16 c = search running

pub returns : goal.returns
returns c = search running
