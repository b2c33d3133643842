use native.Mathlib.Omega.{arith}
use Rattle.line_rows.proofs.Laws.{filling_none, filling_more, filling_last, filling}
use mathlib.Core.Path.{refl}
use Rattle.line_rows.proofs.put_rows.Goals as goal

pub overflow_cast-first : goal.overflow_cast-first
overflow_cast-first c = search filling

pub overflow_cast-n : goal.overflow_cast-n
overflow_cast-n c = search filling

pub overflow_add-first : goal.overflow_add-first
overflow_add-first c = search filling

pub record_at-second-requires : goal.record_at-second-requires
record_at-second-requires c = search filling

pub overflow_add-first-2 : goal.overflow_add-first-2
overflow_add-first-2 c = search filling

pub record_at-third-requires : goal.record_at-third-requires
record_at-third-requires c = search filling

pub loop-l-init : goal.loop-l-init
loop-l-init c = filling_none _ _ _ _ _ _ _ _ _ _ c.requires.1 refl c.record_at-second.ensures c.record_at-third.ensures refl refl

pub layer_row-w-requires : goal.layer_row-w-requires
layer_row-w-requires c = search filling

pub put_row-requires : goal.put_row-requires
put_row-requires c = search filling

pub loop-l-preserved : goal.loop-l-preserved
loop-l-preserved c = filling_more _ _ _ _ _ _ _ _ _ _ _ _
    c.loop-l.invariant
    (omega arith)
    c.layer_row-w.ensures
    c.put_row.ensures

pub returns : goal.returns
returns c = search filling

pub returns-2 : goal.returns-2
returns-2 c = filling_last _ _ _ _ _ _ _ _ _ _ _ _
    c.loop-l.invariant
    (omega arith)
    (omega arith)
    c.layer_row-w.ensures
    c.put_row.ensures
