use Rattle.paint_dark.specs.Dark.{Lost}
use Rattle.paint_dark.proofs.pairs_dark.Given as goal

abbrev pub invariant-loop-j : goal.invariant-loop-j
invariant-loop-j l = Lost l.s l.d l.rows l.j l.a l.b
