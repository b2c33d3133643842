use Rattle.line_pixel.proofs.Shows.{Shows}
use Rattle.line_pixel.specs.Rows.{row_stack}
use Rattle.line_pixel.proofs.pixel.Given as goal

abbrev pub invariant-loop-c : goal.invariant-loop-c
invariant-loop-c l = Shows (row_stack l.s l.d l.rows l.x) l.pairs l.c l.cur

abbrev pub decreases-loop-c : goal.decreases-loop-c
decreases-loop-c l = l.c.pair
