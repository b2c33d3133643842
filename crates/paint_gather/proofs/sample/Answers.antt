use native.Mathlib.Omega.{arith}
use Rattle.paint_gather.proofs.Laws.{sampling, sample_room}
use Rattle.paint_gather.proofs.sample.Goals as goal

pub load-requires : goal.load-requires
load-requires g c = let h = sample_room _ _ _ _ c.requires.3 in let k = g.met.S.Sample.word in rw c.from.ensures (omega arith)

pub returns : goal.returns
returns g c = search sampling
