-- `put_octets` meets its contract: after k turns the first k octets stand there. Assumes nothing.
use mathlib.Core.Path.{◌≡◌}
use Prim.Native.Nat.{◌≤◌}
use lib.ListN.{length}
use lib.Seq.{paste}
use Rattle.octets_put.proofs.put_octets.Given as goal

abbrev pub invariant-loop-i : goal.invariant-loop-i
invariant-loop-i l = (l.i ≤ length l.v) × (l.d ≡ paste l.initial.d l.at l.v l.i) × (length l.d ≡ length l.initial.d)
