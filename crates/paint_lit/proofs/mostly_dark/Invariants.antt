use Prim.Native.Nat.{◌<◌}
use Rattle.paint_lit.proofs.mostly_dark.Given as goal

abbrev pub invariant-loop-j : goal.invariant-loop-j
invariant-loop-j l = l.count < l.j
