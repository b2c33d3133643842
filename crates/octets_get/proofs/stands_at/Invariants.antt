-- `stands_at` meets its contract: the whole answer is the answer from octet i on. Assumes nothing.
use mathlib.Core.Path.{◌≡◌}
use Prim.Native.Nat.{◌+◌, ◌≤◌}
use lib.ListN.{length, drop}
use Rattle.octets.specs.Octets.{begins, stands_at}
use Rattle.octets_get.proofs.stands_at.Given as goal

abbrev pub invariant-loop-i : goal.invariant-loop-i
invariant-loop-i l = (l.i ≤ length l.want) × (l.at + length l.want ≤ length l.s) × (stands_at l.s l.at l.want ≡ begins (drop (l.at + l.i) l.s) (drop l.i l.want))
