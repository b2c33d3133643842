use Prim.Native.Nat.{◌-◌, ◌≤◌, ◌<◌}
use lib.ListN.{length}
use Rattle.band_mix.proofs.two_end.Given as goal

abbrev pub invariant-loop-step : goal.invariant-loop-step
invariant-loop-step l = (l.x < l.e) × (l.e ≤ l.n) × (l.n ≤ length l.m) × (l.n ≤ length l.k) × (16 ≤ l.step) × (l.step ≤ 64)

abbrev pub decreases-loop-step : goal.decreases-loop-step
decreases-loop-step l = l.n - l.e
