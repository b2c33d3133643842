use Rattle.line_planes.proofs.Laws.{gather_more, gathering}
use Rattle.line_planes.proofs.listing_of.Goals as goal

pub loop-i-init : goal.loop-i-init
loop-i-init c = search gathering

pub returns-then-list-eq16 : goal.returns-then-list-eq16
returns-then-list-eq16 c = search gathering

pub plane_at-requires : goal.plane_at-requires
plane_at-requires c = search gathering

pub with_plane-list-requires : goal.with_plane-list-requires
with_plane-list-requires c = search gathering

pub loop-i-preserved : goal.loop-i-preserved
loop-i-preserved c = gather_more _ _ _ _ _ _
    c.loop-i.invariant
    c.loop-i-test.true
    c.plane_at.ensures
    c.with_plane-list.ensures

pub returns : goal.returns
returns c = search gathering
