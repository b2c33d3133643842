use Prim.Native.Nat.{◌≤◌}
use Rattle.paint_show.proofs.all_gathered.Given as goal

abbrev pub invariant-loop-c : goal.invariant-loop-c
invariant-loop-c l = l.f ≤ l.c
