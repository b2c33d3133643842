use Rattle.band_mix.proofs.Laws.{Lining}
use Rattle.band_mix.specs.Mix.{copied_from}
use Rattle.band_mix.proofs.copy_line.Given as goal

abbrev pub invariant-loop-x : goal.invariant-loop-x
invariant-loop-x l = Lining (copied_from l.initial.out l.a l.t) l.initial.out l.t 0 l.n l.out l.x
