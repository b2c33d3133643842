-- What is gathered of the list is what the rest adds to what was gathered so far.
use Rattle.std.proofs.Common.{drop, ◌≡◌}
use Rattle.line_planes.specs.Listing.{no_planes, gathered}
use Rattle.line_slice.proofs.gather_planes.Given as goal

abbrev pub invariant-loop-i : goal.invariant-loop-i
invariant-loop-i l = gathered no_planes l.planes ≡ gathered l.t (drop l.i l.planes)
