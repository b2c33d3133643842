use Prim.Native.Nat.{◌-◌, ◌≤◌, ◌<◌}
use lib.ListN.{length}
use Rattle.paint_blocks.proofs.mixed_end.Given as goal

abbrev pub invariant-loop-step : goal.invariant-loop-step
invariant-loop-step l = (l.x < l.e) × (l.e ≤ l.n) × (l.n ≤ length l.m) × (16 ≤ l.step) × (l.step ≤ 64)

abbrev pub decreases-loop-step : goal.decreases-loop-step
decreases-loop-step l = l.n - l.e
