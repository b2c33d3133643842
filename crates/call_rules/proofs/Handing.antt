-- What a viewer may rely on after asking for coded data, of the exported call's promise alone.
-- Assumes nothing.
use Rattle.std.specs.Prelude.{Ok}
use Prim.Native.Nat.{ℕ, ◌*◌, ◌≤◌}
use native.Mathlib.Omega.{arith}
use mathlib.Core.Path.{◌≡◌, refl, sym, ap, subst, ◌∙◌}
use mathlib.Core.Logic.{◌≢◌}
use mathlib.Core.List.{List}
use lib.ListN.{length, take}
use Rattle.laws.proofs.Cases.{clash}
use Rattle.octets.specs.Octets.{Octets}
use Rattle.sheet_rules.specs.Record.{record_size}
use Rattle.answers.proofs.Table.{refusal_count}
use Rattle.answers_report.specs.declared.Report.{Report}
use Rattle.answers_report.specs.Report.{report_of}
use Rattle.data_rules.specs.declared.Source.{Source}
use Rattle.data_rules.specs.declared.Source.TheVariants.{Page, Pencil}
use Rattle.data_rules.specs.Data.{source_number, octets_in, data_of, part_of, part_source, part_start}
use Rattle.data_rules.specs.Sentences.{Nothing}
use Rattle.page_rules.specs.Reading.{read_of}
use Rattle.data_rules.proofs.Own.{OwnParts, read_parts}
use Rattle.data_rules.proofs.Handed.{Stands, part_stands, part_refused}
use Rattle.data_report.specs.declared.DataReport.{DataReport}
use Rattle.data_report.specs.Reported.{report_at, data_report}
use Rattle.call_rules.specs.Calls.{ReadCall, DataCall}
use Rattle.call_rules.proofs.Reports.{report_done, report_refused}

-- ---- what the report tells

-- the two sources have the numbers 0 and 1
source_once : (x y : Source) → source_number x ≡ source_number y → x ≡ y
unfolding source_number
source_once Page Page e = refl
source_once Page Pencil e = clash e
source_once Pencil Page e = clash (sym e)
source_once Pencil Pencil e = refl

source_least : (x : Source) → source_number x ≤ 1
unfolding source_number
source_least Page = omega arith
source_least Pencil = omega arith

abbrev answer_in : DataReport → Report
answer_in r = record { number = r.number; place = r.place; count = r.count }

module _ (sheet page pencil : List ℕ) (k l : ℕ) (r : DataReport) (c : DataCall sheet page pencil k l r) where
  -- number, place and count are those of the answer
  answer_of_lem : answer_in r ≡ report_of (data_of sheet page pencil k l)
  unfolding data_report report_at report_of
  answer_of_lem = ap answer_in c.reports

  source_of : r.source ≡ source_number (part_source sheet page pencil k l)
  unfolding data_report report_at
  source_of = ap (λ (x : DataReport). x.source) c.reports

  start_of : r.start ≡ part_start sheet page pencil k l
  unfolding data_report report_at
  start_of = ap (λ (x : DataReport). x.start) c.reports

  in_source : (x : Source) → r.source ≡ source_number x → part_source sheet page pencil k l ≡ x
  in_source x e = source_once (part_source sheet page pencil k l) x (sym source_of ∙ e)

  module _ (z : r.number ≡ 0) where
    answered : data_of sheet page pencil k l ≡ Ok r.count
    answered = report_done (data_of sheet page pencil k l) (answer_in r) answer_of_lem z

    stands_in : (x : Source) → r.source ≡ source_number x → Stands r.count (octets_in page pencil x) r.start (part_of sheet page pencil k l)
    stands_in x e =
        subst (λ (n : ℕ). Stands r.count (octets_in page pencil x) n (part_of sheet page pencil k l)) (sym start_of)
        (subst (λ (y : Source). Stands r.count (octets_in page pencil y) (part_start sheet page pencil k l) (part_of sheet page pencil k l)) (in_source x e)
        (part_stands sheet page pencil k l r.count answered))

    -- the part stands where the report says: so many octets of the page, or of the pencil file, from the start on
    pub handed_page : r.source ≡ 0 → Stands r.count page r.start (part_of sheet page pencil k l)
    unfolding source_number octets_in
    handed_page e = stands_in Page e

    pub handed_pencil : r.source ≡ 1 → Stands r.count pencil r.start (part_of sheet page pencil k l)
    unfolding source_number octets_in
    handed_pencil e = stands_in Pencil e

  -- and it is one or the other
  pub handed_source : r.source ≤ 1
  handed_source = subst (λ (n : ℕ). n ≤ 1) (sym source_of) (source_least (part_source sheet page pencil k l))

  -- a refusal hands out nothing
  pub handed_nothing : (r.number ≢ 0) → Nothing (part_of sheet page pencil k l) (part_source sheet page pencil k l) (part_start sheet page pencil k l)
  handed_nothing n =
      part_refused sheet page pencil k l
      (report_refused (data_of sheet page pencil k l) (answer_in r) answer_of_lem n)

  pub handed_zero : (r.number ≢ 0) → (r.count ≡ 0) × (r.source ≡ 0) × (r.start ≡ 0)
  unfolding report_of source_number
  handed_zero n =
      let w = handed_nothing n in (
        ap (λ (x : Report). x.count) answer_of_lem ∙ refusal_count (data_of sheet page pencil k l) (λ e. n (ap (λ (x : Report). x.number) answer_of_lem ∙ e)),
        source_of ∙ ap source_number w.source,
        start_of ∙ w.start,
      )

-- with the sheet that a read gave, each layer of the page is handed out, and the part is the layer's octets
pub read_handed : (page sheet : List ℕ) (r : Report) (sheet' : List ℕ) → ReadCall page sheet r sheet' → r.number ≡ 0 → Octets page
    → OwnParts page (take (r.count * record_size) sheet')
read_handed page sheet r sheet' c z o =
    subst (λ (x : List ℕ). OwnParts page (take (r.count * record_size) x)) (sym c.holds)
    (read_parts page sheet o r.count (report_done (read_of page (length sheet)) r c.reports z))
