use Rattle.paint_layers.proofs.Laws.{Layering}
use Rattle.paint_layers.proofs.lay_layers.Given as goal

abbrev pub invariant-loop-j : goal.invariant-loop-j
invariant-loop-j l = Layering l.u l.s l.d l.rows l.pairs l.a l.b l.initial.out l.initial.row l.initial.bits l.lowest l.out l.row l.bits l.j
