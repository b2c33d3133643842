use Prim.Native.Nat.{◌-◌, ◌≤◌}
use Rattle.paint_lit.proofs.lit_end.Given as goal

abbrev pub invariant-loop-e : goal.invariant-loop-e
invariant-loop-e l = (l.i ≤ l.e) × (l.e ≤ l.n)

abbrev pub decreases-loop-e : goal.decreases-loop-e
decreases-loop-e l = l.n - l.e
