use Rattle.paint_two.proofs.Laws.{step_zeros, step_ones, shown_moved}
use Rattle.paint_two.proofs.step.Goals as goal

pub returns-then-zeros : goal.returns-then-zeros
returns-then-zeros g c = step_zeros _ _ _ _ _ _ _ _ c.if-n-x-lt-BLOCK.false (c.zeros.ensures c.if-zeros.true) (shown_moved _ _ _ _ _ _ c.lay.ensures)

pub returns-then-ones : goal.returns-then-ones
returns-then-ones g c = step_ones _ _ _ _ _ _ _ _ c.if-n-x-lt-BLOCK.false (c.ones.ensures c.if-ones.true) (shown_moved _ _ _ _ _ _ c.lay-then-ones.ensures)
