use Prim.Native.Nat.{◌-◌, ◌+◌, ◌≤◌, ◌<◌}
use Rattle.paint_show.proofs.mixed_end.Given as goal

abbrev pub invariant-loop-e : goal.invariant-loop-e
invariant-loop-e l = (l.i < l.e) × (l.e ≤ l.most) × (l.most ≤ l.n) × (l.most ≤ l.i + 512)

abbrev pub decreases-loop-e : goal.decreases-loop-e
decreases-loop-e l = l.most - l.e
