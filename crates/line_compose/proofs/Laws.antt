-- One law for each way out of the functions of a line: its premises are what is known there.
-- Assumes nothing.
use Prim.Native.Nat.{ℕ, ◌+◌, ◌*◌, ◌/◌, ◌%◌, ◌≤◌, ◌<◌}
use native.Mathlib.Omega.{arith}
use mathlib.Core.Path.{◌≡◌, refl, sym, ap, subst, ◌∙◌}
use mathlib.Core.Bool.{Bool, not}
use mathlib.Core.List.{List}
use lib.ListN.{length, replicate, take}
use lib.Dec.{eqb}
use borrow.Author.Tests.{lt-ltb, le-ltb}
use borrow.Author.Rules.{rules}
use Rattle.laws.proofs.Cases.{clash}
use Rattle.octets.specs.Octets.{put_at}
use Rattle.line_fetch.specs.Rows.{row_size, rows_size}
use Rattle.sheet_rules.specs.StripeTable.{layer_record}
use Rattle.answers.specs.Answers.{Answer}
use Rattle.answers.specs.declared.Refusal.TheVariants.{NoRoom}
use Rattle.sheet_rules.specs.declared.Record.{Record}
use Rattle.sheet_rules.specs.declared.Extent.{Extent}
use Rattle.std.specs.Prelude.{Option, Some, Result, Ok, Err}
use Rattle.answers.specs.declared.Refusal.{Refusal}
use Rattle.sheet_rules.specs.Record.{record_size, record_at}
use Rattle.pixel_rules.specs.declared.MainPos.{MainPos}
use Rattle.sheet_rules.specs.declared.Colour.{Colour}
use Rattle.pixel_rules.specs.Planes.{PlaneList, list_of}
use Rattle.pixel_rules.specs.Samples.{Scene, width_of}
use Rattle.pixel_rules.specs.Decide.{decide}
use Rattle.picture_rules.specs.Line.{pixels, line_pixels, Ruling, shows, refused, ruling_of, line_answer, line_of, line_holds, line_into, Lines}
use Rattle.picture_rules.proofs.Scenes.{Stage, shows_stage, stage_layers, scene_ratio_some, scene_res, scene_width}
use Rattle.picture_rules.proofs.First.{lines_first}
use Rattle.line_planes.specs.declared.Listing.{Listing}
use Rattle.line_planes.specs.Listing.{listing_of, entries_of}
use Rattle.line_planes.proofs.Entries.{gathered_holds}
use Rattle.line_pixel.specs.Rows.{row_stack, RowsFit}
use Rattle.line_rows.specs.Rows.{rows_of, Standing}
use Rattle.line_rows.proofs.Fit.{rows_fit, pixel_is}
use Rattle.paint_floor.specs.Floors.{PlainRows}
use Rattle.paint_line.proofs.Plain.{rows_plain, pairs_few}
use Rattle.line_verdict.specs.Ruled.{list_from, ruled_of}
use Rattle.sheet_table.proofs.Found.{found_whole}
use Rattle.line_compose.specs.Composing.{scene_from, Showable, Composed}

-- ---- a line that is to be shown

module _ (s : List ℕ) (extent : Extent) (t : Listing) (d : List ℕ) (y : ℕ) (g : Showable (scene_from s extent t d) y) where
  abbrev here : Scene
  here = scene_from s extent t d

  abbrev list : PlaneList
  list = record { entries = entries_of t; part = g.part }

  stage : Stage s list d g.stripe y here
  stage = shows_stage s list d g.stripe y here g.ruling

  whole : extent.first + extent.layers ≤ length s / record_size
  whole =
      (found_whole s g.stripe (Some extent) extent (record { counts = record { records = stage.records; stripes = stage.stripes }; good = stage.good }) (sym stage.found) refl).records

  pub shown_place : extent.first + 1 < length s / record_size
  shown_place = let w = whole in let c = stage_layers stage in omega arith

  pub shown_standing : Standing s extent
  unfolding layer_record
  shown_standing =
      let c = stage_layers stage in
      record {
        whole = whole;
        three = omega arith;
        fifteen = omega arith;
        res = λ l a b. scene_res stage l a b;
        turns = λ l a b. scene_ratio_some stage l a b;
      }

  pub shown_rows : extent.layers * row_size ≤ length {A = ℕ} (replicate rows_size 0)
  shown_rows = let c = stage_layers stage in let n : length {A = ℕ} (replicate rows_size 0) ≡ rows_size = refl in omega arith

  -- the rows of the line, put in front of any numbers that hold as many
  module _ (base rows : List ℕ) (room : extent.layers * row_size ≤ length base) (e : rows ≡ put_at base 0 (rows_of s extent (entries_of t) (record { 0 = y }) extent.layers)) where
    pub rows_shown : RowsFit s d rows (extent.layers / 2)
    rows_shown = subst (λ (r : List ℕ). RowsFit s d r (extent.layers / 2)) (sym e) (rows_fit here list g.stripe y (record { 0 = y }) stage whole base room)

    -- the pixels that are put are those of the line
    pub shown_pixels : (u : Colour) → pixels u (λ (x : MainPos). decide (row_stack s d rows x) (extent.layers / 2)) (width_of here) ≡ line_pixels u here y
    unfolding line_pixels
    shown_pixels u =
        ap (λ (r : List ℕ). pixels u (λ (x : MainPos). decide (row_stack s d r x) (extent.layers / 2)) (width_of here)) e
        ∙ ap (λ (f : MainPos → Option Colour). pixels u f (width_of here)) (λ i x. pixel_is here list g.stripe y (record { 0 = y }) stage whole base room x i)

  pub shown_fits : (rows : List ℕ) → rows ≡ put_at (replicate rows_size 0) 0 (rows_of s extent (entries_of t) (record { 0 = y }) extent.layers) → RowsFit s d rows (extent.layers / 2)
  shown_fits rows e = rows_shown (replicate rows_size 0) rows shown_rows e

  pub shown_plain : (rows : List ℕ) → rows ≡ put_at (replicate rows_size 0) 0 (rows_of s extent (entries_of t) (record { 0 = y }) extent.layers) → PlainRows rows (extent.layers / 2)
  shown_plain rows e = subst (λ (r : List ℕ). PlainRows r (extent.layers / 2)) (sym e) (rows_plain here list g.stripe y (record { 0 = y }) stage (replicate rows_size 0) shown_rows)

  pub shown_few : extent.layers / 2 ≤ 7
  shown_few = pairs_few here list g.stripe y (record { 0 = y }) stage

  pub shown_narrow : (second : Record) (width : ℕ) → second ≡ record_at s (extent.first + 1) → width ≡ second.width → width < 65536
  unfolding layer_record
  shown_narrow second width es ew = let m = (scene_width stage).1 in let z : width ≡ width_of here = ew ∙ ap (λ (r : Record). r.width) es in omega arith

  pub shown_wide : (second : Record) (width : ℕ) → second ≡ record_at s (extent.first + 1) → width ≡ second.width → width ≡ width_of here
  unfolding layer_record
  shown_wide second width es ew = ew ∙ ap (λ (r : Record). r.width) es

  module _ (u : Colour) (out : List ℕ) (second : Record) (width : ℕ) (es : second ≡ record_at s (extent.first + 1)) (ew : width ≡ second.width) where
    wide_is : width ≡ width_of here
    wide_is = shown_wide second width es ew

    pub shown_no_room : length out < width * 4 → Composed here y u out (Err NoRoom) out
    unfolding line_answer line_holds
    shown_no_room h =
        let z = lt-ltb (length out) (width_of here * 4) (subst (λ (n : ℕ). length out < n * 4) wide_is h) in
        record { answers = rw z refl; holds = rw z refl }

    pub shown_done : (rows e : List ℕ) → width * 4 ≤ length out → rows ≡ put_at (replicate rows_size 0) 0 (rows_of s extent (entries_of t) (record { 0 = y }) extent.layers)
        → e ≡ put_at out 0 (pixels u (λ (x : MainPos). decide (row_stack s d rows x) (extent.layers / 2)) width) → Composed here y u out (Ok (width * 4)) e
    unfolding line_answer line_holds
    shown_done rows e h er ee =
        let z = le-ltb (length out) (width_of here * 4) (subst (λ (n : ℕ). n * 4 ≤ length out) wide_is h) in
        record {
          answers = rw z (ap (λ (n : ℕ). Ok (n * 4)) wide_is);
          holds = rw z
              (ee ∙ ap (λ (n : ℕ). put_at out 0 (pixels u (λ (x : MainPos). decide (row_stack s d rows x) (extent.layers / 2)) n)) wide_is
              ∙ ap (put_at out 0) (shown_pixels (replicate rows_size 0) rows shown_rows er u));
        }

pub ruleset showing = (rules, shown_place, shown_standing, shown_rows, shown_fits, shown_plain, shown_few, shown_narrow, shown_no_room, shown_done)

-- ---- after the verdict

module _ (s : List ℕ) (t : Listing) (part : Bool) (d : List ℕ) (k y : ℕ) (r : Result Extent Refusal) (e : r ≡ ruled_of (ruling_of s (list_from t part) d k y)) where
  pub ruled_refused : (a : Refusal) → r ≡ Err a → ruling_of s (list_from t part) d k y ≡ refused a
  unfolding ruled_of
  ruled_refused a z = by (ruling_of s (list_from t part) d k y) refl (sym z ∙ e)
    where
      by : (x : Ruling) → ruling_of s (list_from t part) d k y ≡ x → Err a ≡ ruled_of x → ruling_of s (list_from t part) d k y ≡ refused a
      by (shows v) q w = clash cc
      by (refused b) q w = let c : a ≡ b = cc in q ∙ ap refused (sym c)

  pub ruled_shown : (extent : Extent) → r ≡ Ok extent → ruling_of s (list_from t part) d k y ≡ shows (scene_from s extent t d)
  unfolding ruled_of
  ruled_shown extent z = by (ruling_of s (list_from t part) d k y) refl (sym z ∙ e)
    where
      by : (x : Ruling) → ruling_of s (list_from t part) d k y ≡ x → Ok extent ≡ ruled_of x → ruling_of s (list_from t part) d k y ≡ shows (scene_from s extent t d)
      by (shows v) q w =
          let c : v.extent ≡ extent = cc in
          let g = shows_stage s (list_from t part) d k y v q in
          q ∙ ap shows (λ i. record { sheet = g.sheet i; extent = c i; planes = g.planes i; samples = g.samples i })
      by (refused b) q w = clash cc

  pub line_refused : (u : Colour) (a : Refusal) (out : List ℕ) (x : Answer) → r ≡ Err a → x ≡ Err a → Lines s (list_from t part) d k y u out x out
  unfolding line_of line_into line_answer line_holds
  line_refused u a out x z w =
      let q = ruled_refused a z in
      record { answers = w ∙ sym (ap (line_answer (length out)) q); holds = sym (ap (line_holds u out y) q) }

  pub line_shown : (extent : Extent) → r ≡ Ok extent → Showable (scene_from s extent t d) y
  line_shown extent z = record { stripe = k; part = part; ruling = ruled_shown extent z }

  pub line_composed : (extent : Extent) (u : Colour) (out : List ℕ) (a : Answer) (f : List ℕ) → r ≡ Ok extent → Composed (scene_from s extent t d) y u out a f → Lines s (list_from t part) d k y u out a f
  unfolding line_of line_into
  line_composed extent u out a f z c =
      let q = ruled_shown extent z in
      record { answers = c.answers ∙ ap (line_answer (length out)) (sym q); holds = c.holds ∙ ap (line_holds u out y) (sym q) }

-- ---- a list in octets

-- the list by value holds its first sixteen entries
pub listed_first : (planes : List ℕ) (t : Listing) (part : Bool) → t ≡ listing_of planes → part ≡ not (eqb (length planes % 5) 0)
    → list_from t part ≡ record { entries = take 16 (list_of planes).entries; part = (list_of planes).part }
unfolding listing_of
listed_first planes t part et ep =
    let q : entries_of t ≡ take 16 (list_of planes).entries = ap entries_of et ∙ (gathered_holds (list_of planes).entries).entries in
    λ i. record { entries = q i; part = ep i }

pub line_listed : (s planes d : List ℕ) (k y : ℕ) (u : Colour) (t : Listing) (part : Bool) (out : List ℕ) (a : Answer) (e : List ℕ) → t ≡ listing_of planes → part ≡ not (eqb (length planes % 5) 0)
    → Lines s (list_from t part) d k y u out a e → Lines s (list_of planes) d k y u out a e
line_listed s planes d k y u t part out a e et ep h =
    lines_first s d k y (list_of planes).entries (list_of planes).part u out a e
    (subst (λ (l : PlaneList). Lines s l d k y u out a e) (listed_first planes t part et ep) h)

pub ruleset composing = (rules, line_refused, line_shown, line_composed, line_listed)
