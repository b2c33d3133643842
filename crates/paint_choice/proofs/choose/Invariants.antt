use Rattle.paint_choice.proofs.Marks.{Marking}
use Rattle.paint_choice.specs.Choice.{bits_from}
use Rattle.paint_choice.proofs.choose.Given as goal

abbrev pub invariant-loop-x : goal.invariant-loop-x
invariant-loop-x l = Marking (bits_from l.m l.p l.i) l.initial.sel l.p l.q l.v l.sel l.x
