use native.Mathlib.Omega.{arith}
use Rattle.line_lanes.proofs.Laws.{rowed_more, rowed_last, rowing}
use Rattle.line_lanes.proofs.lane_rows.Goals as goal

pub loop-l-init : goal.loop-l-init
loop-l-init c = search rowing

pub lane_at-requires : goal.lane_at-requires
lane_at-requires c = search rowing

pub row_from-r-requires : goal.row_from-r-requires
row_from-r-requires c = search rowing

pub put_row-requires : goal.put_row-requires
put_row-requires c = search rowing

pub returns : goal.returns
returns c = search rowing

pub loop-l-preserved : goal.loop-l-preserved
loop-l-preserved c = rowed_more _ _ _ _ _ _ _ _ _
    c.loop-l.invariant
    (omega arith)
    c.lane_at.ensures
    c.row_from-r.ensures
    c.put_row.ensures

pub returns-2 : goal.returns-2
returns-2 c = rowed_last _ _ _ _ _ _ _ _ _
    c.loop-l.invariant
    (omega arith)
    (omega arith)
    c.lane_at.ensures
    c.row_from-r.ensures
    c.put_row.ensures
