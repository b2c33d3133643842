use Rattle.paint_show.proofs.Laws.{Showing}
use Prim.Native.Nat.{◌-◌}
use Rattle.paint_words.specs.Words.{octets_of}
use Rattle.paint_show.proofs.show_floors.Given as goal

abbrev pub invariant-loop-i : goal.invariant-loop-i
invariant-loop-i l = Showing (octets_of l.u) l.s l.d l.rows l.sel l.a l.b l.initial.out l.initial.row l.out l.row l.i

abbrev pub decreases-loop-i : goal.decreases-loop-i
decreases-loop-i l = l.n - l.i
