use Rattle.paint_lit.proofs.Laws.{Filling}
use Prim.Native.Nat.{◌-◌}
use Rattle.paint_lit.proofs.lay_between.Given as goal

abbrev pub invariant-loop-i : goal.invariant-loop-i
invariant-loop-i l = Filling l.unseen l.s l.d l.rows l.pairs l.a l.n l.initial.out l.initial.row l.initial.bits l.out l.row l.bits l.i

abbrev pub decreases-loop-i : goal.decreases-loop-i
decreases-loop-i l = l.n - l.i
