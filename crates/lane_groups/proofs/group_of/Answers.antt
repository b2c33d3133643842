use native.Mathlib.Omega.{arith}
use Rattle.lane_groups.proofs.Laws.{grouping_last, grouping}
use Rattle.lane_groups.proofs.group_of.Goals as goal

pub loop-l-init : goal.loop-l-init
loop-l-init c = search grouping

pub returns-then-g-le1 : goal.returns-then-g-le1
returns-then-g-le1 c = search grouping

pub fewer-g-requires : goal.fewer-g-requires
fewer-g-requires c = search grouping

pub loop-l-preserved : goal.loop-l-preserved
loop-l-preserved c = search grouping

pub returns : goal.returns
returns c = search grouping

pub returns-else-g-le1 : goal.returns-else-g-le1
returns-else-g-le1 c = grouping_last _ _ _ _ _ _ c.loop-l.invariant _ (omega arith) (omega arith) c.fewer-g.ensures
