use Prim.Native.Nat.{◌-◌}
use Rattle.band_mix.proofs.Twos.{Pairing}
use Rattle.band_mix.proofs.mix_two.Given as goal

abbrev pub invariant-loop-x : goal.invariant-loop-x
invariant-loop-x l = Pairing l.m l.k l.a l.b 0 l.n l.initial.out l.out l.x

abbrev pub decreases-loop-x : goal.decreases-loop-x
decreases-loop-x l = l.n - l.x
