-- The start is found in the whole list as in what is left of it.
use Rattle.std.proofs.Common.{drop, ◌≡◌}
use Rattle.pixel_rules.specs.Planes.{plane_start}
use Rattle.line_slice.proofs.plane_start.Given as goal

abbrev pub invariant-loop-k : goal.invariant-loop-k
invariant-loop-k l = plane_start l.planes l.layer ≡ plane_start (drop l.k l.planes) l.layer
