use Prim.Native.Nat.{◌-◌}
use Rattle.band_mix.specs.Mix.{mixed_from}
use Rattle.band_mix.proofs.Laws.{Lining}
use Rattle.band_mix.proofs.mix_line.Given as goal

abbrev pub invariant-loop-x : goal.invariant-loop-x
invariant-loop-x l = Lining (mixed_from l.initial.out l.m l.a l.b l.t) l.initial.out l.t 0 l.n l.out l.x

abbrev pub decreases-loop-x : goal.decreases-loop-x
decreases-loop-x l = l.n - l.x
