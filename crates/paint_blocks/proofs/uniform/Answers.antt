use native.Mathlib.Omega.{arith}
use Rattle.paint_blocks.proofs.Laws.{block_same}
use Rattle.paint_blocks.proofs.uniform.Goals as goal

pub returns : goal.returns
returns c = block_same _ _ _ _ _ (c.from-v.ensures) (omega arith) c.eight.ensures c.eight-2.ensures
