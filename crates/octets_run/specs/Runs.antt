-- What is promised between the steps.
--
--   RunsTo v s from to r   octets v stand from one place up to another, r, and end there if it lies before `to`
use Rattle.std.specs.Prelude.{ℕ, ◌≤◌, ◌<◌, ◌≡◌, List}
use Rattle.octets.proofs.Runs.{run_end}

pub record RunsTo (v : ℕ) (s : List ℕ) (from to r : ℕ) : Type 0 where
  pub most : r ≤ to
  pub same : run_end v s from ≡ run_end v s r
  pub stop : r < to → run_end v s r ≡ r
