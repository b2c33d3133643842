use native.Mathlib.Omega.{arith}
use lib.ListN.{length-set}
use Rattle.line_put.proofs.Laws.{fours}
use Rattle.line_put.proofs.put_pixel.Goals as goal

pub bounds-out-at : goal.bounds-out-at
bounds-out-at c = search fours

pub overflow_add-out : goal.overflow_add-out
overflow_add-out c = search fours

pub bounds-out-at-in-Some : goal.bounds-out-at-in-Some
bounds-out-at-in-Some c = simp length-set (omega arith)

pub overflow_add-out-in-Some : goal.overflow_add-out-in-Some
overflow_add-out-in-Some c = search fours

pub bounds-out-at-in-Some-2 : goal.bounds-out-at-in-Some-2
bounds-out-at-in-Some-2 c = simp length-set (omega arith)

pub overflow_add-out-in-Some-2 : goal.overflow_add-out-in-Some-2
overflow_add-out-in-Some-2 c = search fours

pub bounds-out-at-in-Some-3 : goal.bounds-out-at-in-Some-3
bounds-out-at-in-Some-3 c = simp length-set (omega arith)

pub bounds-out-at-in-None : goal.bounds-out-at-in-None
bounds-out-at-in-None c = search fours

pub overflow_add-out-in-None : goal.overflow_add-out-in-None
overflow_add-out-in-None c = search fours

pub bounds-out-at-in-None-2 : goal.bounds-out-at-in-None-2
bounds-out-at-in-None-2 c = simp length-set (omega arith)

pub overflow_add-out-in-None-2 : goal.overflow_add-out-in-None-2
overflow_add-out-in-None-2 c = search fours

pub bounds-out-at-in-None-3 : goal.bounds-out-at-in-None-3
bounds-out-at-in-None-3 c = simp length-set (omega arith)

pub overflow_add-out-in-None-3 : goal.overflow_add-out-in-None-3
overflow_add-out-in-None-3 c = search fours

pub bounds-out-at-in-None-4 : goal.bounds-out-at-in-None-4
bounds-out-at-in-None-4 c = simp length-set (omega arith)

pub returns-in-Some : goal.returns-in-Some
returns-in-Some c = search fours

pub returns-in-None : goal.returns-in-None
returns-in-None c = search fours
