use native.Mathlib.Omega.{arith}
use Rattle.line_slice.proofs.Laws.{start_here, start_next, start_none}
use Rattle.line_slice.proofs.plane_start.Goals as goal

pub returns-then-p-layer : goal.returns-then-p-layer
returns-then-p-layer c = start_here _ _ _ c.loop-k.invariant _ _ c.loop-k-test.true c.if-p-layer.true (omega arith)

pub loop-k-preserved : goal.loop-k-preserved
loop-k-preserved c = start_next _ _ _ c.loop-k.invariant _ _ c.loop-k-test.true c.if-p-layer.false (omega arith)

pub returns : goal.returns
returns c = start_none _ _ _ c.loop-k.invariant c.loop-k-test.false
