use Rattle.jpeg_pairs.proofs.Laws.{Looking}
use Prim.Native.Nat.{◌-◌}
use Rattle.jpeg_pairs.proofs.near.Given as goal

abbrev pub invariant-loop-i : goal.invariant-loop-i
invariant-loop-i l = Looking l.s l.from l.last l.i

abbrev pub decreases-loop-i : goal.decreases-loop-i
decreases-loop-i l = l.last - l.i
