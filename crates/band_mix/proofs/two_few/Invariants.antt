use Rattle.band_mix.proofs.Twos.{Pairing}
use Rattle.band_mix.proofs.two_few.Given as goal

abbrev pub invariant-loop-x : goal.invariant-loop-x
invariant-loop-x l = Pairing l.m l.k l.a l.b l.p l.q l.initial.out l.out l.x
