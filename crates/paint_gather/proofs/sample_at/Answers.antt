use native.Mathlib.Omega.{arith}
use Rattle.paint_gather.proofs.Laws.{sampling, place_there}
use Rattle.paint_gather.proofs.sample_at.Goals as goal

pub overflow_mul-i : goal.overflow_mul-i
overflow_mul-i g c = search sampling

pub overflow_add-p-2 : goal.overflow_add-p-2
overflow_add-p-2 g c = search sampling

pub load-requires : goal.load-requires
load-requires g c = let h = place_there _ _ _ _ _ c.requires.2 in let k = g.met.S.Sample.word in rw c.from.ensures (omega arith)

pub returns : goal.returns
returns g c = search sampling
