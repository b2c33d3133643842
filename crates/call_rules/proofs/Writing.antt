-- What a viewer may rely on after writing, of the exported call's promise alone.
-- Assumes nothing.
use Rattle.std.specs.Prelude.{Ok}
use Prim.Native.Nat.{ℕ}
use mathlib.Core.Path.{◌≡◌, sym, ap, subst, ◌∙◌}
use mathlib.Core.List.{List}
use lib.ListN.{length, take, drop}
use Rattle.octets.specs.Octets.{Octets}
use Rattle.answers_report.specs.declared.Report.{Report}
use Rattle.sheet_rules.specs.Record.{records}
use Rattle.write_rules.specs.Writing.{write_of}
use Rattle.write_rules.specs.Form.{Lands}
use Rattle.write_rules.proofs.Theorems.{refused_kept, write_kept, write_page}
use Rattle.call_rules.specs.Calls.{WriteCall}
use Rattle.call_rules.proofs.Reports.{report_done, report_refused}

module _ (sheet d page : List ℕ) (r : Report) (page' : List ℕ) (c : WriteCall sheet d page r page') where
  -- a refusal changes no octet that was lent
  pub written_kept : (r.number ≡ 0 → ⊥) → page' ≡ page
  written_kept n = c.holds ∙ refused_kept sheet d page (report_refused (write_of sheet d (length page)) r c.reports n)

  module _ (os : Octets sheet) (od : Octets d) (z : r.number ≡ 0) where
    answered : write_of sheet d (length page) ≡ Ok r.count
    answered = report_done (write_of sheet d (length page)) r c.reports z

    -- the octets past the page stay
    pub written_rest : drop r.count page' ≡ drop r.count page
    written_rest = ap (drop r.count) c.holds ∙ (write_kept sheet d page os od r.count answered).0

    -- what stands in front is a page with the sheet that was lent, but for octets 18 to 21 of coded records, and with its layers
    pub written_front : Lands (records sheet) d (take r.count page')
    written_front = subst (λ (l : List ℕ). Lands (records sheet) d (take r.count l)) (sym c.holds) (write_page sheet d page os od r.count answered)
