use Rattle.paint_coat.specs.Coat.{over}
use Rattle.paint_coat.proofs.Laws.{Coating}
use Rattle.paint_gather.specs.Gather.{gathered}
use Rattle.paint_gather.proofs.gather_few.Given as goal

abbrev pub invariant-loop-y : goal.invariant-loop-y
invariant-loop-y g l = Coating (over (gathered g.S.Sample.SIZE l.sel l.t l.d l.step l.a)) l.initial.out l.x l.e l.out l.y
