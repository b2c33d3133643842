use Prim.Native.Nat.{◌≤◌, ◌<◌}
use Rattle.paint_line.proofs.part_end.Given as goal

abbrev pub invariant-loop-j : goal.invariant-loop-j
invariant-loop-j l = (l.j ≤ l.pairs) × (l.a ≤ l.left) × (l.left ≤ l.b) × (l.a < l.right) × (l.right ≤ l.b)
