-- What a viewer may rely on after reading, of the exported call's promise alone.
-- Assumes nothing.
use Rattle.std.specs.Prelude.{Ok}
use Prim.Native.Nat.{ℕ, ◌*◌}
use mathlib.Core.Path.{◌≡◌, sym, ap, subst, ◌∙◌}
use mathlib.Core.List.{List}
use lib.ListN.{length, take, drop}
use Rattle.octets.specs.Octets.{Octets}
use Rattle.sheet_rules.specs.Record.{record_size}
use Rattle.answers_report.specs.declared.Report.{Report}
use Rattle.page_rules.specs.Reading.{read_of}
use Rattle.page_rules.proofs.Into.{into_kept, into_rest, Front, into_front}
use Rattle.call_rules.specs.Calls.{ReadCall}
use Rattle.call_rules.proofs.Reports.{report_done, report_refused}

module _ (page sheet : List ℕ) (r : Report) (sheet' : List ℕ) (c : ReadCall page sheet r sheet') where
  -- a refusal changes no octet that was lent
  pub read_kept : (r.number ≡ 0 → ⊥) → sheet' ≡ sheet
  read_kept n = c.holds ∙ into_kept page sheet (report_refused (read_of page (length sheet)) r c.reports n)

  module _ (z : r.number ≡ 0) where
    answered : read_of page (length sheet) ≡ Ok r.count
    answered = report_done (read_of page (length sheet)) r c.reports z

    -- the octets past the sheet stay
    pub read_rest : drop (r.count * record_size) sheet' ≡ drop (r.count * record_size) sheet
    read_rest = ap (drop (r.count * record_size)) c.holds ∙ into_rest page sheet r.count answered

    -- what stands in front is the sheet of the page, and one that the judge accepts
    pub read_front : Octets page → Front page r.count (take (r.count * record_size) sheet')
    read_front o = subst (λ (l : List ℕ). Front page r.count (take (r.count * record_size) l)) (sym c.holds) (into_front page sheet o r.count answered)
