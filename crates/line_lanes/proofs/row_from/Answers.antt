use native.Mathlib.Omega.{arith}
use Rattle.line_lanes.proofs.Laws.{row_above, row_below, row_crossed, lane_steps, lane_down}
use Rattle.line_lanes.proofs.row_from.Goals as goal

pub returns-then-y-w : goal.returns-then-y-w
returns-then-y-w c = row_above _ _ _ (omega arith) c.row_out.ensures

pub returns-then-w-y : goal.returns-then-w-y
returns-then-w-y c = row_below _ _ _ (omega arith) c.row_out-then-w-y.ensures

pub scale_pos-down-requires : goal.scale_pos-down-requires
scale_pos-down-requires c = lane_steps _ _
    c.requires
    c.if-y-w.false
    c.if-w-y.false

pub steps_down-requires : goal.steps_down-requires
steps_down-requires c = (
  c.requires.start,
  lane_down _ _ _
      c.requires
      c.if-y-w.false
      c.if-w-y.false c.scale_pos-down.ensures,
  c.requires.step,
)

pub returns : goal.returns
returns c = row_crossed _ _ _ _
    c.if-y-w.false
    c.if-w-y.false
    c.scale_pos-down.ensures
    c.steps_down.ensures
