use Rattle.std.proofs.Common.{ℕ, ◌<◌, ◌≡◌, true}
use Rattle.octets_run.proofs.each.Given as goal

abbrev pub invariant-loop-j : goal.invariant-loop-j
invariant-loop-j g l = l.all ≡ true → (k : ℕ) → k < l.j → goal.F-post g l.test k true
