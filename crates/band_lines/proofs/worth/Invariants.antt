use Prim.Native.Nat.{◌≤◌}
use Rattle.band_lines.proofs.worth.Given as goal

abbrev pub invariant-loop-j : goal.invariant-loop-j
invariant-loop-j l = 2 ≤ l.g
