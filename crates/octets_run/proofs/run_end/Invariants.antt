use Rattle.octets_run.proofs.Laws.{Blocks}
use Prim.Native.Nat.{◌-◌}
use Rattle.octets_run.proofs.run_end.Given as goal

abbrev pub invariant-loop-i : goal.invariant-loop-i
invariant-loop-i l = Blocks l.v l.s l.from l.i

abbrev pub decreases-loop-i : goal.decreases-loop-i
decreases-loop-i l = l.n - l.i
