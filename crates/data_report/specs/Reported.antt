-- What is reported to the viewer of a layer's coded data.
--
--   report_at a x n                   the report of an answer, with the number of a source and a start
--   report_found f                    the report of what was found
--   data_report s page pencil k l     the report of a request
use Rattle.std.specs.Prelude.{ℕ, List, Result}
use Rattle.answers.specs.Answers.{Answer, number_of, place_of, count_of}
use Rattle.answers.specs.declared.Refusal.{Refusal}
use Rattle.data_rules.specs.declared.Part.{Part}
use Rattle.data_rules.specs.Data.{source_number, data_by, data_of, source_by, part_source, start_by, part_start}
use Rattle.data_report.specs.declared.DataReport.{DataReport}

unfoldable pub report_at : Answer → ℕ → ℕ → DataReport
unfolding number_of place_of count_of
report_at a x n = record { number = number_of a; place = place_of a; count = count_of a; source = x; start = n }

unfoldable pub report_found : Result Part Refusal → DataReport
unfolding report_at data_by source_by start_by source_number
report_found f = report_at (data_by f) (source_number (source_by f)) (start_by f)

unfoldable pub data_report : List ℕ → List ℕ → List ℕ → ℕ → ℕ → DataReport
unfolding report_at
data_report s page pencil k l = report_at (data_of s page pencil k l) (source_number (part_source s page pencil k l)) (part_start s page pencil k l)
