-- What the proofs of this crate cite.
-- Assumes nothing.
use Prim.Native.Nat.{ℕ}
use mathlib.Core.Path.{◌≡◌, ap, subst, ◌∙◌}
use mathlib.Core.List.{List}
use borrow.Author.Rules.{rules}
use Rattle.answers.specs.Answers.{Answer}
use Rattle.answers_report.specs.declared.Report.{Report}
use Rattle.answers_report.specs.Report.{report_of}
use Rattle.sheet_rules.specs.declared.Colour.{Colour}
use Rattle.sheet_rules.specs.Judge.{sheet_answer}
use Rattle.page_rules.specs.Reading.{Reads}
use Rattle.write_rules.specs.Writing.{Writes}
use Rattle.pixel_rules.specs.Planes.{list_of}
use Rattle.picture_rules.specs.Line.{unseen_grey, Lines}
use Rattle.band_rules.specs.Band.{Bands}
use Rattle.std.specs.Prelude.{Result}
use Rattle.answers.specs.declared.Refusal.{Refusal}
use Rattle.data_rules.specs.declared.Part.{Part}
use Rattle.data_rules.specs.Data.{found_of}
use Rattle.data_report.specs.declared.DataReport.{DataReport}
use Rattle.data_report.specs.Reported.{report_found}
use Rattle.data_report.proofs.Firm.{report_found_lem}
use Rattle.call_rules.specs.Calls.{JudgeCall, ReadCall, WriteCall, LineUnseenCall, LineCall, BandCall, DataCall}

pub judge_called : (sheet : List ℕ) {a : Answer} {r : Report} → a ≡ sheet_answer sheet → r ≡ report_of a → JudgeCall sheet r
judge_called sheet e h = record { reports = h ∙ ap report_of e }

pub read_called : (page sheet : List ℕ) {a : Answer} {r : Report} {e : List ℕ} → Reads page sheet a e → r ≡ report_of a → ReadCall page sheet r e
read_called page sheet x h = record { reports = h ∙ ap report_of x.answers; holds = x.holds }

pub write_called : (sheet d page : List ℕ) {a : Answer} {r : Report} {e : List ℕ} → Writes sheet d page a e → r ≡ report_of a → WriteCall sheet d page r e
write_called sheet d page x h = record { reports = h ∙ ap report_of x.answers; holds = x.holds }

pub line_called : (sheet planes samples : List ℕ) (k y : ℕ) (u : Colour) (out : List ℕ) {a : Answer} {r : Report} {e : List ℕ} → Lines sheet (list_of planes) samples k y u out a e → r ≡ report_of a
    → LineUnseenCall sheet planes samples k y u out r e
line_called sheet planes samples k y u out x h = record { reports = h ∙ ap report_of x.answers; holds = x.holds }

pub grey_called : (sheet planes samples : List ℕ) (k y : ℕ) (out : List ℕ) {u : Colour} {a : Answer} {r : Report} {e : List ℕ} → u ≡ unseen_grey
    → Lines sheet (list_of planes) samples k y u out a e → r ≡ report_of a → LineCall sheet planes samples k y out r e
grey_called sheet planes samples k y out {u} {a} {r} {e} g x h =
    subst (λ (v : Colour). LineUnseenCall sheet planes samples k y v out r e) g (line_called sheet planes samples k y u out x h)

pub band_called : (sheet planes samples : List ℕ) (k : ℕ) (u : Colour) (out : List ℕ) {a : Answer} {r : Report} {e : List ℕ} → Bands sheet (list_of planes) samples k u out a e → r ≡ report_of a
    → BandCall sheet planes samples k u out r e
band_called sheet planes samples k u out x h = record { reports = h ∙ ap report_of x.answers; holds = x.holds }

pub data_called : (sheet page pencil : List ℕ) (k l : ℕ) {f : Result Part Refusal} {r : DataReport} → f ≡ found_of sheet page pencil k l → r ≡ report_found f → DataCall sheet page pencil k l r
data_called sheet page pencil k l e h = record { reports = h ∙ ap report_found e ∙ report_found_lem sheet page pencil k l }

pub ruleset calls = (rules, judge_called, read_called, write_called, line_called, grey_called, band_called, data_called)
