-- The report of an answer: its number, place and count.
--   refusal_of number place   the report of a refusal
--   report_of a               the report of any answer
-- Assumes nothing.
use Rattle.std.specs.Prelude.{ℕ}
use Rattle.answers.specs.Answers.{Answer, number_of, place_of, count_of}
use Rattle.answers_report.specs.declared.Report.{Report}

abbrev pub refusal_of : ℕ → ℕ → Report
refusal_of number place = record { number = number; place = place; count = 0 }

unfoldable pub report_of : Answer → Report
unfolding number_of place_of count_of
report_of a = record { number = number_of a; place = place_of a; count = count_of a }
