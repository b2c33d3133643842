use Rattle.pixel_rules.specs.declared.MainPos.{MainPos}
use Rattle.pixel_rules.specs.Decide.{decide}
use Rattle.line_pixel.specs.Rows.{row_stack}
use Rattle.line_put.proofs.Laws.{Painting}
use Rattle.line_put.proofs.put_pixels.Given as goal

abbrev pub invariant-loop-x : goal.invariant-loop-x
invariant-loop-x l = Painting l.unseen l.initial.out (λ (i : MainPos). decide (row_stack l.s l.d l.rows i) l.pairs) l.width l.out l.x
