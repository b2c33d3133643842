use Rattle.paint_table.proofs.Laws.{Tabling}
use Rattle.paint_table.proofs.put_columns.Given as goal

abbrev pub invariant-loop-c : goal.invariant-loop-c
invariant-loop-c l = Tabling l.each l.d l.rows l.first l.pairs l.f l.a l.b l.initial.t l.initial.lit l.t l.lit l.c
