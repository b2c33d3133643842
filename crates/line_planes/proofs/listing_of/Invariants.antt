use Rattle.line_planes.proofs.Laws.{Gathering}
use Rattle.line_planes.proofs.listing_of.Given as goal

abbrev pub invariant-loop-i : goal.invariant-loop-i
invariant-loop-i l = Gathering l.s l.n l.list l.i
