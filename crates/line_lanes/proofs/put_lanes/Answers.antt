use native.Mathlib.Omega.{arith}
use mathlib.Core.Path.{refl}
use Rattle.line_lanes.proofs.Laws.{laying_none, laying_more, laying_last, laying}
use Rattle.line_lanes.proofs.put_lanes.Goals as goal

pub overflow_cast-first : goal.overflow_cast-first
overflow_cast-first c = search laying

pub overflow_cast-n : goal.overflow_cast-n
overflow_cast-n c = search laying

pub overflow_add-first : goal.overflow_add-first
overflow_add-first c = search laying

pub record_at-second-requires : goal.record_at-second-requires
record_at-second-requires c = search laying

pub overflow_add-first-2 : goal.overflow_add-first-2
overflow_add-first-2 c = search laying

pub record_at-third-requires : goal.record_at-third-requires
record_at-third-requires c = search laying

pub loop-l-init : goal.loop-l-init
loop-l-init c = laying_none _ _ _ _ _ _ _ _ _
    c.requires.1
    refl
    c.record_at-second.ensures
    c.record_at-third.ensures
    refl refl

pub layer_lane-w-requires : goal.layer_lane-w-requires
layer_lane-w-requires c = search laying

pub put_lane-requires : goal.put_lane-requires
put_lane-requires c = search laying

pub loop-l-preserved : goal.loop-l-preserved
loop-l-preserved c = laying_more _ _ _ _ _ _ _ _ _ _ _
    c.loop-l.invariant
    (omega arith)
    c.layer_lane-w.ensures.0
    c.layer_lane-w.ensures.1
    c.put_lane.ensures

pub returns : goal.returns
returns c = search laying

pub returns-2 : goal.returns-2
returns-2 c = laying_last _ _ _ _ _ _ _ _ _ _ _
    c.loop-l.invariant
    (omega arith)
    (omega arith)
    c.layer_lane-w.ensures.0
    c.layer_lane-w.ensures.1
    c.put_lane.ensures
