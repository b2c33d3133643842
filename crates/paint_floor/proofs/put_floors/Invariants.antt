use Rattle.paint_floor.proofs.Laws.{Flooring}
use Rattle.paint_floor.proofs.put_floors.Given as goal

abbrev pub invariant-loop-j : goal.invariant-loop-j
invariant-loop-j l = Flooring l.s l.d l.rows l.pairs l.f l.a l.b l.initial.sel l.initial.bits l.sel l.bits l.j
