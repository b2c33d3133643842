-- A row painted, part by part.
--
--   MasksTold ns f pairs   each mask above pair f was read, or has no samples in the row: so its value is known at every pixel
use Rattle.std.specs.Prelude.{ℕ, ◌*◌, ◌≤◌, ◌<◌, ◌≢◌, ◌⊎◌, List}
use Rattle.line_fetch.specs.Rows.{row_at}

pub record MasksTold (ns : List ℕ) (f pairs : ℕ) : Type 0 where
  pub told : (j : ℕ) → f < j → j ≤ pairs → ((row_at ns (j * 2)).read ≢ 0) ⊎ ((row_at ns (j * 2)).to.0 ≤ (row_at ns (j * 2)).from.0)
