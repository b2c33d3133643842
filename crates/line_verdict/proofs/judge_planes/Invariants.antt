use Rattle.line_verdict.proofs.Laws.{Judging}
use Rattle.line_verdict.proofs.judge_planes.Given as goal

abbrev pub invariant-loop-i : goal.invariant-loop-i
invariant-loop-i l = Judging l.sheet l.extent l.samples l.list l.part l.n l.last l.i
