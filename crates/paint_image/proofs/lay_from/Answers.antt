use native.Mathlib.Omega.{arith}
use Rattle.paint_image.proofs.Laws.{from_one, from_sub}
use Rattle.paint_image.proofs.Laws.{froms}
use Rattle.paint_image.proofs.lay_from.Goals as goal

pub lay_whole-requires : goal.lay_whole-requires
lay_whole-requires c = search froms

pub overflow_sub-e : goal.overflow_sub-e
overflow_sub-e c = search froms

pub lay_one-requires : goal.lay_one-requires
lay_one-requires c = (from_one _ _ _ _ _ _ c.requires.0 c.requires.1 c.requires.2 c.sample_of-j.ensures (omega arith), let w = from_sub _ _ _ _ _ _ c.requires.0 c.requires.1 c.requires.2 c.sample_of-j.ensures in omega arith)

pub returns-then-e-b : goal.returns-then-e-b
returns-then-e-b c = search froms

pub returns-else-e-b : goal.returns-else-e-b
returns-else-e-b c = search froms
