use Rattle.sheet_table.proofs.Laws.{Counted}
use Rattle.sheet_table.proofs.find_stripe.Given as goal

abbrev pub invariant-loop-i : goal.invariant-loop-i
invariant-loop-i l = Counted l.sheet l.k l.i l.extent
