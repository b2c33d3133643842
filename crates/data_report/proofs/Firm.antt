-- What is reported of a request is what was found.
-- Assumes nothing.
use Prim.Native.Nat.{ℕ}
use mathlib.Core.Path.{◌≡◌, refl}
use mathlib.Core.List.{List}
use Rattle.data_rules.specs.Data.{found_of, data_of, part_source, part_start}
use Rattle.data_report.specs.Reported.{report_found, data_report}

module _ (s page pencil : List ℕ) (k l : ℕ) where
  pub report_found_lem : report_found (found_of s page pencil k l) ≡ data_report s page pencil k l
  unfolding report_found data_report data_of part_source part_start
  report_found_lem = refl
