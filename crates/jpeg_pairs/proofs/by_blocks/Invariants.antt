use Rattle.jpeg_pairs.proofs.Laws.{Leaping}
use Prim.Native.Nat.{◌-◌}
use Rattle.jpeg_pairs.proofs.by_blocks.Given as goal

abbrev pub invariant-loop-i : goal.invariant-loop-i
invariant-loop-i l = Leaping l.s l.from l.i

abbrev pub decreases-loop-i : goal.decreases-loop-i
decreases-loop-i l = l.n - l.i
