use Rattle.paint_choice.proofs.Marks.{Spreading}
use Prim.Native.Nat.{◌*◌}
use Rattle.paint_choice.proofs.bits_twice.Given as goal

abbrev pub invariant-loop-q : goal.invariant-loop-q
invariant-loop-q l = Spreading l.m l.i 2 l.n l.initial.bits l.bits l.q (l.q * 2)
