use Rattle.paint_lit.specs.Lit.{DarkUpTo}
use Prim.Native.Nat.{◌-◌}
use Rattle.paint_lit.proofs.dark_end.Given as goal

abbrev pub invariant-loop-e : goal.invariant-loop-e
invariant-loop-e l = DarkUpTo l.sel l.i l.n l.e

abbrev pub decreases-loop-e : goal.decreases-loop-e
decreases-loop-e l = l.n - l.e
