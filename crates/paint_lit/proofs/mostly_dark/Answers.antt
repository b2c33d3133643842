use native.Mathlib.Omega.{arith}
use Rattle.paint_lit.proofs.Laws.{row_there}
use Rattle.paint_lit.proofs.mostly_dark.Goals as goal

pub row_at-m-requires : goal.row_at-m-requires
row_at-m-requires c = (omega arith, row_there _ _ _ _ c.requires.0 _ (let h = c.loop-j-test.true in omega arith))

pub row_at-r-requires : goal.row_at-r-requires
row_at-r-requires c = (omega arith, row_there _ _ _ _ c.requires.0 _ (let h = c.loop-j-test.true in omega arith))
