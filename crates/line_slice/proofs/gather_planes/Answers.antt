use Rattle.line_slice.proofs.Laws.{gather_next, gather_end}
use Rattle.line_slice.proofs.gather_planes.Goals as goal

pub loop-i-preserved : goal.loop-i-preserved
loop-i-preserved c = gather_next _ _ _ _ _ c.loop-i-test.true c.loop-i.invariant c.with_plane-t.ensures

pub returns : goal.returns
returns c = gather_end _ _ _ c.loop-i-test.false c.loop-i.invariant
