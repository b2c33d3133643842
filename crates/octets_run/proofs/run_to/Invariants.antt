use Rattle.octets_run.proofs.Laws.{Running}
use Rattle.octets_run.proofs.run_to.Given as goal

abbrev pub invariant-loop-i : goal.invariant-loop-i
invariant-loop-i l = Running l.v l.s l.from l.to l.i
