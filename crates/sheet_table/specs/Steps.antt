-- What is known of a sheet once it is judged, and of a stripe once it is found: the steps of a line and of coded data begin so.
--
--   JudgedGood s     the judge takes the sheet
--   Whole s extent    the stripe's records are there, and few
use Rattle.std.specs.Prelude.{ℕ, ◌+◌, ◌/◌, ◌≤◌, ◌≡◌, List, length, Ok}
use Rattle.sheet_rules.specs.declared.Counts.{Counts}
use Rattle.sheet_rules.specs.declared.Extent.{Extent}
use Rattle.sheet_rules.specs.Record.{record_size, most_records}
use Rattle.sheet_rules.specs.Judge.{judge_of}

pub record JudgedGood (s : List ℕ) : Type 0 where
  pub counts : Counts
  pub good : judge_of s ≡ Ok counts

pub record Whole (s : List ℕ) (extent : Extent) : Type 0 where
  pub records : extent.first + extent.layers ≤ length s / record_size
  pub few : extent.first + extent.layers ≤ most_records
