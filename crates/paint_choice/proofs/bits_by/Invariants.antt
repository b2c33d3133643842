use Prim.Native.Nat.{◌*◌}
use Rattle.paint_choice.proofs.Marks.{Spreading}
use Rattle.paint_choice.proofs.bits_by.Given as goal

abbrev pub invariant-loop-q : goal.invariant-loop-q
invariant-loop-q l = Spreading l.m l.i l.k l.n l.initial.bits l.bits l.q (l.q * l.k)
