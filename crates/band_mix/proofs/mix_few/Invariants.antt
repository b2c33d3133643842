use Rattle.band_mix.proofs.Laws.{Lining}
use Rattle.band_mix.specs.Mix.{mixed_from}
use Rattle.band_mix.proofs.mix_few.Given as goal

abbrev pub invariant-loop-x : goal.invariant-loop-x
invariant-loop-x l = Lining (mixed_from l.initial.out l.m l.a l.b l.t) l.initial.out l.t l.p l.q l.out l.x
