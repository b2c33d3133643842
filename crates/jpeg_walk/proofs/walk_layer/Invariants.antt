use Rattle.jpeg_walk.proofs.Laws.{Ready, left}
use Rattle.jpeg_walk.proofs.walk_layer.Given as goal

abbrev pub invariant-loop-step : goal.invariant-loop-step
invariant-loop-step l = Ready l.s l.start l.main l.step

abbrev pub decreases-loop-step : goal.decreases-loop-step
decreases-loop-step l = left l.s l.step
