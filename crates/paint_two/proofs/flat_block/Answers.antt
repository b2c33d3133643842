use native.Mathlib.Omega.{arith}
use Rattle.paint_two.proofs.Laws.{coated_before}
use Rattle.paint_two.proofs.flat_block.Goals as goal

pub returns : goal.returns
returns c = coated_before _ _ _ _ _ _ _ (omega arith) (omega arith) c.lay_flat.ensures c.lay_flat-2.ensures
