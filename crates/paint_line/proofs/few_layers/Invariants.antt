use Rattle.paint_line.proofs.Laws.{Telling}
use Rattle.paint_line.proofs.few_layers.Given as goal

abbrev pub invariant-loop-j : goal.invariant-loop-j
invariant-loop-j l = Telling l.rows l.f l.pairs l.j
