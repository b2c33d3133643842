use Rattle.paint_show.proofs.Laws.{Mixing}
use Rattle.paint_show.specs.Show.{is_lit}
use Rattle.paint_words.specs.Words.{octets_of}
use Rattle.paint_show.proofs.pick_unlit.Given as goal

abbrev pub invariant-loop-c : goal.invariant-loop-c
invariant-loop-c l = Mixing (octets_of l.u) l.s l.d l.rows l.sel l.pairs l.a l.x l.e (is_lit l.lit) l.initial.out l.initial.row l.out l.row l.c
