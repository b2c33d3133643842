-- Any two results that a call's promise allows are equal. There is no exception.
-- Assumes nothing.
use Prim.Native.Nat.{ℕ}
use mathlib.Core.Path.{◌≡◌, sym, ◌∙◌}
use mathlib.Core.List.{List}
use Rattle.sheet_rules.specs.declared.Colour.{Colour}
use Rattle.data_report.specs.declared.DataReport.{DataReport}
use Rattle.answers_report.specs.declared.Report.{Report}
use Rattle.picture_rules.specs.Line.{unseen_grey}
use Rattle.call_rules.specs.Calls.{JudgeCall, ReadCall, WriteCall, LineUnseenCall, LineCall, BandCall, DataCall}

pub judge_firm : (sheet : List ℕ) (r q : Report) → JudgeCall sheet r → JudgeCall sheet q → r ≡ q
judge_firm sheet r q x y = x.reports ∙ sym y.reports

pub read_firm : (page sheet : List ℕ) (r q : Report) (e f : List ℕ) → ReadCall page sheet r e → ReadCall page sheet q f → (r ≡ q) × (e ≡ f)
read_firm page sheet r q e f x y = (x.reports ∙ sym y.reports, x.holds ∙ sym y.holds)

pub data_firm : (sheet page pencil : List ℕ) (k l : ℕ) (r q : DataReport) → DataCall sheet page pencil k l r → DataCall sheet page pencil k l q → r ≡ q
data_firm sheet page pencil k l r q x y = x.reports ∙ sym y.reports

pub write_firm : (sheet d page : List ℕ) (r q : Report) (e f : List ℕ) → WriteCall sheet d page r e → WriteCall sheet d page q f → (r ≡ q) × (e ≡ f)
write_firm sheet d page r q e f x y = (x.reports ∙ sym y.reports, x.holds ∙ sym y.holds)

pub line_unseen_firm : (sheet planes samples : List ℕ) (k y : ℕ) (u : Colour) (out : List ℕ) (r q : Report) (e f : List ℕ)
    → LineUnseenCall sheet planes samples k y u out r e → LineUnseenCall sheet planes samples k y u out q f → (r ≡ q) × (e ≡ f)
line_unseen_firm sheet planes samples k y u out r q e f x z = (x.reports ∙ sym z.reports, x.holds ∙ sym z.holds)

pub line_firm : (sheet planes samples : List ℕ) (k y : ℕ) (out : List ℕ) (r q : Report) (e f : List ℕ) → LineCall sheet planes samples k y out r e → LineCall sheet planes samples k y out q f
    → (r ≡ q) × (e ≡ f)
line_firm sheet planes samples k y out r q e f x z = line_unseen_firm sheet planes samples k y unseen_grey out r q e f x z

pub band_firm : (sheet planes samples : List ℕ) (k : ℕ) (u : Colour) (out : List ℕ) (r q : Report) (e f : List ℕ)
    → BandCall sheet planes samples k u out r e → BandCall sheet planes samples k u out q f → (r ≡ q) × (e ≡ f)
band_firm sheet planes samples k u out r q e f x z = (x.reports ∙ sym z.reports, x.holds ∙ sym z.holds)
