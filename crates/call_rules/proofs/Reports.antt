-- What a report tells of the answer that it reports.
-- Assumes nothing.
use Rattle.std.specs.Prelude.{Ok, Err}
use Prim.Native.Nat.{ℕ}
use mathlib.Core.Path.{◌≡◌, sym, ap, ◌∙◌}
use lib.ListN.{get_or}
use Rattle.answers.specs.Answers.{Answer, number_of, place_of, count_of, table}
use Rattle.answers.specs.declared.Refusal.TheVariants.{TooLong}
use Rattle.answers.proofs.Table.{answer_back}
use Rattle.answers_report.specs.declared.Report.{Report}
use Rattle.answers_report.specs.Report.{report_of}

done_is : (a : Answer) → number_of a ≡ 0 → a ≡ Ok (count_of a)
unfolding table
done_is a e = sym (answer_back a) ∙ ap (λ (k : ℕ). get_or (table (count_of a) (place_of a)) k (Err TooLong)) e

module _ (a : Answer) (r : Report) (e : r ≡ report_of a) where
  number_is : r.number ≡ number_of a
  unfolding report_of
  number_is = ap (λ (x : Report). x.number) e

  count_is : r.count ≡ count_of a
  unfolding report_of
  count_is = ap (λ (x : Report). x.count) e

  pub report_done : r.number ≡ 0 → a ≡ Ok r.count
  report_done z = done_is a (sym number_is ∙ z) ∙ ap Ok (sym count_is)

  pub report_refused : (r.number ≡ 0 → ⊥) → (n : ℕ) → a ≡ Ok n → ⊥
  unfolding number_of
  report_refused nz n d = nz (number_is ∙ ap number_of d)
