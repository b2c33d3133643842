use Rattle.write_verdict.proofs.Loops.{Looking}
use Rattle.write_verdict.proofs.first_above.Given as goal

abbrev pub invariant-loop-i : goal.invariant-loop-i
invariant-loop-i l = Looking l.most l.s l.n l.i
