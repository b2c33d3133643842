-- Reports tell answers apart.
-- Assumes nothing.
use mathlib.Core.Path.{◌≡◌, ap}
use Rattle.answers.specs.Answers.{Answer}
use Rattle.answers.proofs.Table.{answer_by_values}
use Rattle.answers_report.specs.declared.Report.{Report}
use Rattle.answers_report.specs.Report.{report_of}

-- equal reports come from equal answers
pub report_by_values : (a b : Answer) → report_of a ≡ report_of b → a ≡ b
unfolding report_of
report_by_values a b e =
    answer_by_values a b (ap (λ (r : Report). r.number) e) (ap (λ (r : Report). r.place) e) (ap (λ (r : Report). r.count) e)
