use Rattle.write_verdict.proofs.Loops.{Passing}
use Rattle.write_verdict.proofs.pass_records.Given as goal

abbrev pub invariant-loop-i : goal.invariant-loop-i
invariant-loop-i l = Passing l.mode l.s l.d l.main l.n l.tally l.i
