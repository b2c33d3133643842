use Prim.Native.Nat.{◌≤◌}
use Rattle.band_group.proofs.tail_of.Given as goal

abbrev pub invariant-loop-j : goal.invariant-loop-j
invariant-loop-j l = l.j ≤ l.pairs
