use Rattle.read_body.proofs.Loop.{Going}
use Prim.Native.Nat.{◌-◌}
use lib.ListN.{length}
use Rattle.read_body.proofs.read_body.Given as goal

abbrev pub invariant-loop-q : goal.invariant-loop-q
invariant-loop-q l = Going l.hd l.s l.from l.initial.out l.p l.out

abbrev pub decreases-loop-q : goal.decreases-loop-q
decreases-loop-q l = length l.s - l.p.at
