use Prim.Native.Nat.{◌-◌}
use Rattle.paint_coat.specs.Coat.{over, chosen_by}
use Rattle.paint_choice.specs.Choice.{bits_from}
use Rattle.paint_two.specs.Two.{shown}
use Rattle.paint_two.proofs.Laws.{Stepping}
use Rattle.paint_two.proofs.two_layers.Given as goal

abbrev pub invariant-loop-x : goal.invariant-loop-x
invariant-loop-x g l =
    Stepping (chosen_by (bits_from l.m l.a 0) (over (shown (g.L.Source.shows l.low l.d) 0 l.a)) (over (shown (g.U.Source.shows l.up l.d) 0 l.a))) l.a l.n l.initial.out l.out l.x

abbrev pub decreases-loop-x : goal.decreases-loop-x
decreases-loop-x g l = l.n - l.x
