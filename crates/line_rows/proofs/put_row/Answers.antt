use Rattle.line_rows.proofs.Laws.{filling}
use native.Mathlib.Omega.{arith}
use lib.ListN.{length-set}
use Rattle.line_rows.proofs.put_row.Goals as goal

pub overflow_sub-b : goal.overflow_sub-b
overflow_sub-b c = search filling

pub overflow_mul-b : goal.overflow_mul-b
overflow_mul-b c = search filling

pub offset_bounds-rows-b : goal.offset_bounds-rows-b
offset_bounds-rows-b c = search filling

pub bounds-rows-b : goal.bounds-rows-b
bounds-rows-b c = search filling

pub overflow_add-rows : goal.overflow_add-rows
overflow_add-rows c = search filling

pub offset_bounds-rows-b-2 : goal.offset_bounds-rows-b-2
offset_bounds-rows-b-2 c = search filling

pub bounds-rows-b-2 : goal.bounds-rows-b-2
bounds-rows-b-2 c = simp length-set (omega arith)

pub overflow_add-rows-2 : goal.overflow_add-rows-2
overflow_add-rows-2 c = search filling

pub offset_bounds-rows-b-3 : goal.offset_bounds-rows-b-3
offset_bounds-rows-b-3 c = search filling

pub bounds-rows-b-3 : goal.bounds-rows-b-3
bounds-rows-b-3 c = simp length-set (omega arith)

pub overflow_add-rows-3 : goal.overflow_add-rows-3
overflow_add-rows-3 c = search filling

pub offset_bounds-rows-b-4 : goal.offset_bounds-rows-b-4
offset_bounds-rows-b-4 c = search filling

pub bounds-rows-b-4 : goal.bounds-rows-b-4
bounds-rows-b-4 c = simp length-set (omega arith)

pub overflow_add-rows-4 : goal.overflow_add-rows-4
overflow_add-rows-4 c = search filling

pub offset_bounds-rows-b-5 : goal.offset_bounds-rows-b-5
offset_bounds-rows-b-5 c = search filling

pub bounds-rows-b-5 : goal.bounds-rows-b-5
bounds-rows-b-5 c = simp length-set (omega arith)

pub overflow_add-rows-5 : goal.overflow_add-rows-5
overflow_add-rows-5 c = search filling

pub offset_bounds-rows-b-6 : goal.offset_bounds-rows-b-6
offset_bounds-rows-b-6 c = search filling

pub bounds-rows-b-6 : goal.bounds-rows-b-6
bounds-rows-b-6 c = simp length-set (omega arith)

pub overflow_add-rows-6 : goal.overflow_add-rows-6
overflow_add-rows-6 c = search filling

pub offset_bounds-rows-b-7 : goal.offset_bounds-rows-b-7
offset_bounds-rows-b-7 c = search filling

pub bounds-rows-b-7 : goal.bounds-rows-b-7
bounds-rows-b-7 c = simp length-set (omega arith)

pub returns : goal.returns
returns c = search filling
