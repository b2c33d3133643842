use Rattle.paint_coat.proofs.Laws.{Coating}
use Rattle.paint_show.specs.Show.{picking}
use Rattle.paint_show.proofs.pick_words.Given as goal

abbrev pub invariant-loop-p : goal.invariant-loop-p
invariant-loop-p l = Coating (picking l.sel l.i l.c l.row l.x) l.initial.out l.x l.e l.out l.p
