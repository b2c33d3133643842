use Prim.Native.Nat.{◌+◌, ◌*◌}
use Rattle.paint_gather.proofs.Laws.{Turning}
use Rattle.paint_gather.proofs.gather_run.Given as goal

abbrev pub invariant-loop-q : goal.invariant-loop-q
invariant-loop-q g l = Turning g.S.Sample.SIZE l.sel l.t l.d l.step l.a l.x l.e l.initial.out l.out (l.a + l.q * 12) (l.q * l.step)
