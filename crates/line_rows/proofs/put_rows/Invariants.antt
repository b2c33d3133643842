use Rattle.line_rows.proofs.Laws.{Filling}
use Rattle.line_rows.proofs.put_rows.Given as goal

abbrev pub invariant-loop-l : goal.invariant-loop-l
invariant-loop-l l = Filling l.initial.rows l.sheet l.extent l.list l.y l.main l.coded3 l.n l.rows l.l
