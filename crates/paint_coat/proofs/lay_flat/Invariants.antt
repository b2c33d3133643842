use Rattle.paint_coat.proofs.Laws.{Coating}
use Rattle.paint_words.specs.Words.{octets_of}
use Rattle.paint_coat.specs.Coat.{over, flat}
use Rattle.paint_coat.proofs.lay_flat.Given as goal

abbrev pub invariant-loop-x : goal.invariant-loop-x
invariant-loop-x l = Coating (over (flat (octets_of l.w))) l.initial.out l.a l.b l.out l.x
