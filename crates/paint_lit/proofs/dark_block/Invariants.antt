use Rattle.paint_lit.proofs.Laws.{Looked}
use Rattle.paint_rules.specs.Floor.{dark}
use Rattle.paint_lit.proofs.dark_block.Given as goal

abbrev pub invariant-loop-j : goal.invariant-loop-j
invariant-loop-j l = Looked dark l.sel l.i l.all l.j
