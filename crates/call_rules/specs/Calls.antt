-- What the exported calls promise, each as one relation over entry, result and exit.
--
--   JudgeCall sheet r   a sheet is judged, and the report is r
--   ReadCall page sheet r sheet'   a page is read into a sheet, the report is r, and the buffer is then sheet'
--   DataCall sheet page pencil k l r   the coded data of layer l of stripe k are asked for, and the report is r
--   WriteCall sheet d page r page'   a page is written from a sheet and its data d, the report is r, and the buffer is then page'
--   LineUnseenCall sheet planes samples k y u out r out'   line y of stripe k is composed, u being the unseen colour, the report is r, and the buffer is then out'
--   LineCall sheet planes samples k y out r out'   the same, and the unseen colour is 128 128 96
--   BandCall sheet planes samples k u out r out'   all lines of stripe k are composed, u being the unseen colour, the report is r, and the buffer is then out'
--   BaseLineCall sheet planes samples k y out r out'   the line call before there was an unseen colour, frozen
use Rattle.std.specs.Prelude.{ℕ, ◌≡◌, List, length}
use Rattle.answers_report.specs.declared.Report.{Report}
use Rattle.answers_report.specs.Report.{report_of}
use Rattle.data_report.specs.declared.DataReport.{DataReport}
use Rattle.data_report.specs.Reported.{data_report}
use Rattle.sheet_rules.specs.declared.Colour.{Colour}
use Rattle.sheet_rules.specs.Judge.{sheet_answer}
use Rattle.page_rules.specs.Reading.{read_of, read_into}
use Rattle.write_rules.specs.Writing.{write_of, write_into}
use Rattle.pixel_rules.specs.Planes.{list_of}
use Rattle.picture_rules.specs.Line.{unseen_grey, line_of, line_into}
use Rattle.picture_rules.specs.BaseLine.{base_of, base_into}
use Rattle.band_rules.specs.Band.{band_of, band_into}

pub record JudgeCall (sheet : List ℕ) (r : Report) : Type 0 where
  pub reports : r ≡ report_of (sheet_answer sheet)

pub record ReadCall (page sheet : List ℕ) (r : Report) (sheet' : List ℕ) : Type 0 where
  pub reports : r ≡ report_of (read_of page (length sheet))
  pub holds : sheet' ≡ read_into page sheet

pub record DataCall (sheet page pencil : List ℕ) (k l : ℕ) (r : DataReport) : Type 0 where
  pub reports : r ≡ data_report sheet page pencil k l

pub record WriteCall (sheet d page : List ℕ) (r : Report) (page' : List ℕ) : Type 0 where
  pub reports : r ≡ report_of (write_of sheet d (length page))
  pub holds : page' ≡ write_into sheet d page

pub record LineUnseenCall (sheet planes samples : List ℕ) (k y : ℕ) (u : Colour) (out : List ℕ) (r : Report) (out' : List ℕ) : Type 0 where
  pub reports : r ≡ report_of (line_of sheet (list_of planes) samples k y (length out))
  pub holds : out' ≡ line_into sheet (list_of planes) samples k y u out

abbrev pub LineCall : List ℕ → List ℕ → List ℕ → ℕ → ℕ → List ℕ → Report → List ℕ → Type 0
LineCall sheet planes samples k y out r out' = LineUnseenCall sheet planes samples k y unseen_grey out r out'

pub record BandCall (sheet planes samples : List ℕ) (k : ℕ) (u : Colour) (out : List ℕ) (r : Report) (out' : List ℕ) : Type 0 where
  pub reports : r ≡ report_of (band_of sheet (list_of planes) samples k (length out))
  pub holds : out' ≡ band_into sheet (list_of planes) samples k u out

pub record BaseLineCall (sheet planes samples : List ℕ) (k y : ℕ) (out : List ℕ) (r : Report) (out' : List ℕ) : Type 0 where
  pub reports : r ≡ report_of (base_of sheet (list_of planes) samples k y (length out))
  pub holds : out' ≡ base_into sheet (list_of planes) samples k y out
