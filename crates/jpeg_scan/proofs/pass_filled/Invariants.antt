use Rattle.jpeg_scan.specs.Search.{Clears}
use Rattle.jpeg_scan.proofs.pass_filled.Given as goal

abbrev pub invariant-loop : goal.invariant-loop
invariant-loop l = Clears l.s l.from l.i
