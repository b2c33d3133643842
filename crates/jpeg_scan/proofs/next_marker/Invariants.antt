use Rattle.jpeg_pairs.specs.Pairs.{Suspect}
use Prim.Native.Nat.{◌-◌}
use lib.ListN.{length}
use Rattle.jpeg_scan.proofs.next_marker.Given as goal

abbrev pub invariant-loop-i : goal.invariant-loop-i
invariant-loop-i l = Suspect l.s l.from l.i

abbrev pub decreases-loop-i : goal.decreases-loop-i
decreases-loop-i l = length l.s - l.i
