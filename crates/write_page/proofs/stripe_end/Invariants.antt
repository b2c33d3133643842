use Rattle.write_page.proofs.Stripes.{Ending}
use Rattle.write_page.proofs.stripe_end.Given as goal

abbrev pub invariant-loop-j : goal.invariant-loop-j
invariant-loop-j l = Ending l.s l.i l.n l.j
