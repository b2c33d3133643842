use Rattle.paint_show.proofs.Laws.{Mixing}
use Rattle.paint_show.specs.Show.{is_floor}
use Rattle.paint_words.specs.Words.{octets_of}
use Rattle.paint_show.proofs.pick_pairs.Given as goal

abbrev pub invariant-loop-c : goal.invariant-loop-c
invariant-loop-c l = Mixing (octets_of l.u) l.s l.d l.rows l.sel l.pairs l.a l.x l.e (is_floor l.v) l.initial.out l.initial.row l.out l.row l.c
