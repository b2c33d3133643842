use Prim.Native.Nat.{◌-◌, ◌<◌}
use mathlib.Core.Path.{◌≡◌}
use lib.ListN.{length}
use Rattle.line_fetch.specs.Rows.{rows_size}
use Rattle.band_lines.proofs.Stack.{Stacking}
use Rattle.band_lines.proofs.put_lines.Given as goal

abbrev pub invariant-loop-y : goal.invariant-loop-y
invariant-loop-y l = Stacking l.unseen l.sheet l.extent l.samples l.width l.lanes l.initial.out l.out l.y × (length l.rows ≡ rows_size) × (length l.sel ≡ 1536) × (length l.bits ≡ 1560) × (length l.row ≡ 2048) × (length l.t ≡ 192) × (length l.lit ≡ 16) × (l.extent.height < 18446744073709551616)

abbrev pub decreases-loop-y : goal.decreases-loop-y
decreases-loop-y l = l.extent.height - l.y
