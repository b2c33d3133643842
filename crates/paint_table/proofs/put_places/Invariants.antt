use Rattle.paint_table.proofs.Laws.{Placing}
use Rattle.paint_table.proofs.put_places.Given as goal

abbrev pub invariant-loop-j : goal.invariant-loop-j
invariant-loop-j l = Placing l.each l.initial.t l.c l.r l.a l.t l.j
