use Prim.Native.Nat.{◌≤◌}
use mathlib.Core.Path.{◌≡◌}
use Rattle.pixel_rules.specs.Down.{candidates}
use Rattle.line_pixel.specs.Rows.{row_masks}
use Rattle.line_pixel.proofs.candidate_from.Given as goal

abbrev pub invariant-loop-j : goal.invariant-loop-j
invariant-loop-j l = (l.j ≤ l.from) × (candidates (row_masks l.d l.rows l.x) l.from ≡ candidates (row_masks l.d l.rows l.x) l.j)
