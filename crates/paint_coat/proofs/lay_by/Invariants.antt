use Prim.Native.Nat.{◌+◌, ◌*◌}
use Rattle.paint_coat.specs.Coat.{Coated, over, samples_by}
use Rattle.paint_coat.proofs.lay_by.Given as goal

abbrev pub invariant-loop-q : goal.invariant-loop-q
invariant-loop-q g l = Coated (over (samples_by g.S.Sample.SIZE l.k l.s l.t l.i)) l.initial.out l.t (l.t + l.q * l.k) l.out
