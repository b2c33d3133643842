-- One law for each way out of the functions of a band's lines: its premises are what is known there. What is known of one line is said in line_compose.
-- Assumes nothing.
use Prim.Native.Nat.{ℕ, ◌+◌, ◌-◌, ◌*◌, ◌/◌, ◌%◌, ◌≤◌, ◌<◌}
use native.Mathlib.Nat.{mul-le-mul_right, add-mul, one-mul, mul_comm, div-lt_iff_lt-mul, mul-add-div_right, mul-add-mod_self_right, div-eq_of_lt, mod-eq_of_lt, add-zero}
use native.Mathlib.Omega.{arith}
use mathlib.Core.Path.{◌≡◌, refl, sym, ap, ap₂, subst, ◌∙◌}
use mathlib.Core.Bool.{Bool, true, false, cond}
use mathlib.Core.List.{List}
use lib.ListN.{length, get_or}
use lib.Dec.{eqb}
use borrow.Author.Rules.{rules}
use Rattle.laws.proofs.Cases.{clash}
use Rattle.octets.specs.Octets.{put_at}
use Rattle.sheet_rules.specs.declared.Colour.{Colour}
use Rattle.sheet_rules.specs.declared.Extent.{Extent}
use Rattle.pixel_rules.specs.declared.MainPos.{MainPos}
use Rattle.std.specs.Prelude.{Option}
use Rattle.pixel_rules.specs.Planes.{PlaneList}
use Rattle.pixel_rules.specs.Samples.{Scene, width_of}
use Rattle.pixel_rules.specs.Decide.{decide, pixel_at}
use Rattle.picture_rules.specs.Line.{four_of, line_pixels}
use Rattle.picture_rules.proofs.Scenes.{Stage, shows_stage, stage_extent, stage_layers, scene_width}
use Rattle.band_rules.specs.Band.{band_size}
use Rattle.band_rules.proofs.Ruled.{ruling_any_line}
use Rattle.line_fetch.specs.declared.Row.{Row}
use Rattle.line_fetch.specs.Rows.{row_size, row_at, MaskFits}
use Rattle.line_planes.specs.declared.Listing.{Listing}
use Rattle.line_planes.specs.Listing.{entries_of}
use Rattle.line_pixel.specs.Rows.{row_stack, RowsFit}
use Rattle.line_rows.specs.Rows.{rows_of}
use Rattle.line_rows.proofs.Same.{row_among}
use Rattle.line_lanes.specs.declared.Lane.{Lane}
use Rattle.line_lanes.specs.Lanes.{lane_size, lane_at, row_from, rows_from, LanesFit}
use Rattle.line_lanes.proofs.Rows.{row_from_lane, rows_from_lanes}
use Rattle.lane_groups.specs.Groups.{Grouped, Steady}
use Rattle.paint_words.specs.Words.{four_from}
use Rattle.paint_coat.specs.Coat.{Coated, over}
use Rattle.paint_coat.proofs.Coats.{coated_as}
use Rattle.paint_floor.specs.Floors.{PlainRows}
use Rattle.paint_line.proofs.Plain.{rows_plain}
use Rattle.line_compose.specs.Composing.{scene_from, Showable}
use Rattle.line_compose.proofs.Laws.{rows_shown, shown_pixels}
use Rattle.band_group.specs.Group.{bit_rows, row_four, line_of, column_of, group_four}
use Rattle.band_group.proofs.Lines.{placed, column_less}
use Rattle.paint_line.proofs.Octets.{four_pixels}
use Rattle.band_group.proofs.Rows.{put_over}
use Rattle.band_lines.specs.Lines.{band_four, Laned, LinesFit, SomeLinesFit, SomePut}
use Rattle.band_lines.proofs.Groups.{group_pixel, steady_samples}

-- ---- a plane list that has the lanes, and a line of the stripe

-- what shows on line 0 shows on every line of the stripe
showable_line : (s : List ℕ) (extent : Extent) (t : Listing) (d : List ℕ) (y : ℕ) → y < extent.height → Showable (scene_from s extent t d) 0 → Showable (scene_from s extent t d) y
showable_line s extent t d y h g =
    let list : PlaneList = record { entries = entries_of t; part = g.part } in
    let here = stage_extent (shows_stage s list d g.stripe 0 (scene_from s extent t d) g.ruling) in
    record {
      stripe = g.stripe;
      part = g.part;
      ruling = ruling_any_line s list d g.stripe y (subst (λ (x : Extent). y < x.height) here h) ∙ g.ruling;
    }

module _ (s : List ℕ) (extent : Extent) (t : Listing) (d ns : List ℕ) (width room : ℕ) (g : LinesFit (scene_from s extent t d) width room) (w : Laned (scene_from s extent t d) ns) where
  abbrev here : Scene
  here = scene_from s extent t d

  abbrev list : PlaneList
  list = record { entries = entries_of t; part = g.shown.part }

  stage : Stage s list d g.shown.stripe 0 here
  stage = shows_stage s list d g.shown.stripe 0 here g.shown.ruling

  pub some : 0 < width
  some = let e = g.wide in let m = (scene_width stage).0 in omega arith

  narrow : width < 65536
  narrow = let e = g.wide in let m = (scene_width stage).1 in omega arith

  layers_three : 3 ≤ extent.layers
  layers_three = let c = stage_layers stage in omega arith

  layers_most : extent.layers ≤ 15
  layers_most = let c = stage_layers stage in omega arith

  layers_odd : extent.layers % 2 ≡ 1
  layers_odd = let c = stage_layers stage in omega arith

  few : extent.layers / 2 ≤ 7
  few = let c = layers_most in omega arith

  module _ (y : ℕ) (h : y < extent.height) (base : List ℕ) (r : extent.layers * row_size ≤ length base) where
    shown : Showable here y
    shown = showable_line s extent t d y h g.shown

    listed : put_at base 0 (rows_from ns (record { 0 = y }) extent.layers) ≡ put_at base 0 (rows_of s extent (entries_of t) (record { 0 = y }) extent.layers)
    listed = ap (put_at base 0) (rows_from_lanes s extent (entries_of t) ns extent.layers (record { 0 = y }) w.each)

    module _ (rows : List ℕ) (e : rows ≡ put_at base 0 (rows_from ns (record { 0 = y }) extent.layers)) where
      line_fits : RowsFit s d rows (extent.layers / 2)
      line_fits = rows_shown s extent t d y shown base rows r (e ∙ listed)

      line_plain : PlainRows rows (extent.layers / 2)
      line_plain =
          subst (λ (v : List ℕ). PlainRows v (extent.layers / 2)) (sym (e ∙ listed))
          (rows_plain here (record { entries = entries_of t; part = shown.part }) shown.stripe y (record { 0 = y })
          (shows_stage s (record { entries = entries_of t; part = shown.part }) d shown.stripe y here shown.ruling) base r)

      row_is : (l : ℕ) → 1 ≤ l → l ≤ extent.layers → row_at rows l ≡ row_from (lane_at ns l) (record { 0 = y })
      row_is l a b =
          ap (λ (v : List ℕ). row_at v l) (e ∙ listed) ∙ row_among s extent (entries_of t) (record { 0 = y }) base extent.layers l a b ∙ sym (row_from_lane s extent (entries_of t) (record { 0 = y }) l)
          ∙ ap (λ (v : Lane). row_from v (record { 0 = y })) (sym (w.each l a b))

      line_four : (u : Colour) (x : ℕ) → x < width → four_of u (decide (row_stack s d rows (record { 0 = x })) (extent.layers / 2)) ≡ four_of u (pixel_at here (record { 0 = x }) (record { 0 = y }))
      unfolding line_pixels
      line_four u x b =
          let k = g.wide in
          sym (four_pixels u (λ (p : MainPos). decide (row_stack s d rows p) (extent.layers / 2)) (width_of here) x (omega arith))
          ∙ ap (λ (v : List ℕ). four_from v (x * 4)) (shown_pixels s extent t d y shown base rows r (e ∙ listed) u)
          ∙ four_pixels u (λ (p : MainPos). pixel_at here p (record { 0 = y })) (width_of here) x (omega arith)

  -- ---- pixels of the band by line and column

  pub band_four_lem : (u : Colour) (y x : ℕ) → x < width → band_four u here width (y * width + x) ≡ four_of u (pixel_at here (record { 0 = x }) (record { 0 = y }))
  unfolding band_four
  band_four_lem u y x h =
      ap₂ (λ (i j : ℕ). four_of u (pixel_at here (record { 0 = i }) (record { 0 = j }))) (mul-add-mod_self_right y width x ∙ mod-eq_of_lt h)
      (mul-add-div_right (omega arith) y x ∙ ap (λ (n : ℕ). y + n) (div-eq_of_lt h) ∙ add-zero y)

  module _ (y : ℕ) (h : y < extent.height) (base : List ℕ) (r : extent.layers * row_size ≤ length base) (rows : List ℕ) (e : rows ≡ put_at base 0 (rows_from ns (record { 0 = y }) extent.layers))
      (u : Colour) (out new : List ℕ) where
    -- one line
    one_put : Coated (over (row_four u s d rows (extent.layers / 2) (y * width))) out (y * width) (y * width + width) new → Coated (over (band_four u here width)) out (y * width) ((y + 1) * width) new
    unfolding over row_four
    one_put c =
        let z : y * width + width ≡ (y + 1) * width = let a = add-mul y 1 width in let b = one-mul width in omega arith in
        subst (λ (n : ℕ). Coated (over (band_four u here width)) out (y * width) n new) z
        (coated_as (over (row_four u s d rows (extent.layers / 2) (y * width))) (over (band_four u here width)) out new (y * width) (y * width + width)
        (λ p old a b.
        let x : y * width + (p - y * width) ≡ p = omega arith in
        line_four y h base r rows e u (p - y * width) (omega arith) ∙ sym (band_four_lem u y (p - y * width) (omega arith)) ∙ ap (band_four u here width) x) c)

    -- a group
    module _ (most n : ℕ) (k : Grouped ns extent.layers y most n) (o : Steady (lane_at ns 2) y n width) (fits : y + n ≤ extent.height) where
      two_rows : 2 * row_size ≤ length rows
      two_rows = let f = ((line_fits y h base r rows e).pair 1 (omega arith) (let q = layers_three in omega arith)).room in omega arith

      abbrev sample : ℕ → ℕ → Option Colour
      sample v x = decide (row_stack s d (bit_rows rows v) (record { 0 = x })) (extent.layers / 2)

      -- of column x in line q
      pixel : (q x : ℕ) → q < n → x < width
          → cond (eqb (get_or d ((row_at rows 2).at + q * (lane_at ns 2).step + x) 0) 0)
          (four_of u (sample 0 x)) (four_of u (sample 1 x))
          ≡ four_of u (pixel_at here (record { 0 = x }) (record { 0 = y + q }))
      pixel q x a b =
          let line : List ℕ = put_at base 0 (rows_from ns (record { 0 = y + q }) extent.layers) in
          by (decide (row_stack s d line (record { 0 = x })) (extent.layers / 2)) (sample 0 x) (sample 1 x) (eqb (get_or d ((row_at rows 2).at + q * (lane_at ns 2).step + x) 0) 0)
          (group_pixel s d ns rows line extent.layers y most n width q x k o two_rows a b (row_is y h base r rows e) (row_is (y + q) (omega arith) base r line refl) layers_three layers_odd)
          ∙ line_four (y + q) (omega arith) base r line refl u x b
        where
          by : (p low up : Option Colour) (z : Bool) → p ≡ cond z low up → cond z (four_of u low) (four_of u up) ≡ four_of u p
          by p low up true i = ap (four_of u) (sym i)
          by p low up false i = ap (four_of u) (sym i)

      group_put : Coated (over (group_four u s d rows (extent.layers / 2) (row_at rows 2).at (lane_at ns 2).step (y * width) width)) out (y * width) (y * width + n * width) new
          → Coated (over (band_four u here width)) out (y * width) ((y + n) * width) new
      unfolding over group_four
      group_put c =
          let z : y * width + n * width ≡ (y + n) * width = sym (add-mul y n width) in
          subst (λ (i : ℕ). Coated (over (band_four u here width)) out (y * width) i new) z
          (coated_as (over (group_four u s d rows (extent.layers / 2) (row_at rows 2).at (lane_at ns 2).step (y * width) width)) (over (band_four u here width)) out new (y * width) (y * width + n * width)
          (λ p old a b.
          let q : ℕ = line_of (y * width) width p in
          let x : ℕ = column_of (y * width) width p in
          let l = column_less (y * width) width p some in
          let i = placed (y * width) width p a some in
          let j : (y + q) * width + x ≡ p = let m = add-mul y q width in omega arith in
          pixel q x (line_less p a b) l ∙ sym (band_four_lem u (y + q) x l) ∙ ap (band_four u here width) j) c)
        where
          line_less : (p : ℕ) → y * width ≤ p → p < y * width + n * width → line_of (y * width) width p < n
          line_less p a b = (div-lt_iff_lt-mul {k = width} {x = p - y * width} {y = n} some).1 (omega arith)

      -- the samples of layer 2 are there for each line
      group_samples : (row_at rows 2).at + n * (lane_at ns 2).step + width ≤ length d + (lane_at ns 2).step
      group_samples =
          let last : List ℕ = put_at base 0 (rows_from ns (record { 0 = y + (n - 1) }) extent.layers) in
          let m = k.some in
          let c = layers_three in
          let f = ((line_fits (y + (n - 1)) (omega arith) base r last refl).pair 1 (omega arith) (omega arith)).mask in
          let i : row_at last 2 ≡ row_from (lane_at ns 2) (record { 0 = y + (n - 1) }) = row_is (y + (n - 1)) (omega arith) base r last refl 2 (omega arith) (omega arith) in
          let v : (row_at rows 2).at ≡ (row_from (lane_at ns 2) (record { 0 = y })).at = ap (λ (q : Row). q.at) (row_is y h base r rows e 2 (omega arith) (omega arith)) in
          let there = steady_samples (lane_at ns 2) y n width o d (n - 1) (omega arith) some (subst (MaskFits d) i f) in
          let more : n * (lane_at ns 2).step ≡ (n - 1) * (lane_at ns 2).step + (lane_at ns 2).step
          = let a : n ≡ n - 1 + 1 = omega arith in ap (λ (q : ℕ). q * (lane_at ns 2).step) a ∙ add-mul (n - 1) 1 (lane_at ns 2).step ∙ ap (λ (q : ℕ). (n - 1) * (lane_at ns 2).step + q) (one-mul (lane_at ns 2).step) in
          omega (arith, more, v, there)

-- ---- whether a group is worth it

pub worth_two : (g : ℕ) (z : Bool) → 2 ≤ g → z ≡ true → 2 ≤ g
worth_two g z h t = h

pub worth_not : (g : ℕ) → false ≡ true → 2 ≤ g
worth_not g e = clash cc

pub ruleset worthing = (rules, worth_two, worth_not)

-- ---- what the calls ask for, some plane list having these lanes

module _ (s : List ℕ) (extent : Extent) (d ns : List ℕ) (y width : ℕ) (out base : List ℕ) (c : SomeLinesFit s extent d ns y width (length out) (length base)) where
  pub some_lanes : LanesFit ns extent.layers
  some_lanes = c.lanes.fit

  pub some_rows : extent.layers * row_size ≤ length base
  some_rows = c.rows

  pub some_below : y < extent.height
  some_below = c.below

  pub some_narrow : width < 65536
  some_narrow = narrow s extent c.list d ns width (length out) c.lines c.lanes

  pub some_three : 3 ≤ extent.layers
  some_three = layers_three s extent c.list d ns width (length out) c.lines c.lanes

  pub some_few : extent.layers / 2 ≤ 7
  some_few = few s extent c.list d ns width (length out) c.lines c.lanes

  pub some_lane : 2 * lane_size ≤ length ns
  some_lane = let a = c.lanes.fit.there in let b = some_three in omega arith

  -- n lines from y on lie within the band
  pub some_room : (n : ℕ) → y + n ≤ extent.height → (y * width + n * width) * 4 ≤ length out
  unfolding band_size
  some_room n h =
      let f = c.lines.fits in
      let e = c.lines.wide in
      let m : (y + n) * width ≤ extent.height * width = mul-le-mul_right width h in
      let a = add-mul y n width in
      let z : width_of (scene_from s extent c.list d) * extent.height ≡ extent.height * width = ap (λ (i : ℕ). i * extent.height) (sym e) ∙ mul_comm width extent.height in
      omega arith

  module _ (rows : List ℕ) (e : rows ≡ put_at base 0 (rows_from ns (record { 0 = y }) extent.layers)) where
    pub some_fits : RowsFit s d rows (extent.layers / 2)
    some_fits = line_fits s extent c.list d ns width (length out) c.lines c.lanes y c.below base c.rows rows e

    pub some_plain : PlainRows rows (extent.layers / 2)
    some_plain = line_plain s extent c.list d ns width (length out) c.lines c.lanes y c.below base c.rows rows e

    pub some_pairs : (extent.layers / 2 * 2 + 1) * row_size ≤ length rows
    some_pairs = let t = some_three in (some_fits.pair (extent.layers / 2) (omega arith) (omega arith)).room

    -- one line
    pub one_line : (u : Colour) (new : List ℕ) → Coated (over (row_four u s d rows (extent.layers / 2) (y * width))) out (y * width) (y * width + width) new → SomePut u s extent d ns y width out 1 new
    one_line u new k =
        let b = c.below in
        record {
          some = omega arith;
          most = omega arith;
          long = k.long;
          put = λ t f w. one_put s extent t d ns width (length out) f w y c.below base c.rows rows e u out new k;
        }

    -- a group of them
    module _ (most n : ℕ) (g : Grouped ns extent.layers y most n) (em : most ≡ extent.height - y) (v : Lane) (ev : v ≡ lane_at ns 2) (z : Bool) (st : z ≡ true → Steady v y n width) (tz : z ≡ true) (m : Row)
        (er : m ≡ row_at rows 2) where
      steady_lane : Steady (lane_at ns 2) y n width
      steady_lane = subst (λ (l : Lane). Steady l y n width) ev (st tz)

      within : y + n ≤ extent.height
      within = let b = c.below in let f = g.few in omega arith

      pub lines_room : (y * width + n * width) * 4 ≤ length out
      lines_room = some_room n within

      pub lines_samples : m.at + n * v.step + width ≤ length d + v.step
      lines_samples =
          subst (λ (l : Lane). m.at + n * l.step + width ≤ length d + l.step) (sym ev)
          (subst (λ (r : Row). r.at + n * (lane_at ns 2).step + width ≤ length d + (lane_at ns 2).step) (sym er)
          (group_samples s extent c.list d ns width (length out) c.lines c.lanes y c.below base c.rows rows e (record { c0 = 0; c1 = 0; c2 = 0 }) out out most n g steady_lane within))

      pub many_lines : (u : Colour) (new : List ℕ) → Coated (over (group_four u s d rows (extent.layers / 2) m.at v.step (y * width) width)) out (y * width) (y * width + n * width) new
          → SomePut u s extent d ns y width out n new
      many_lines u new k =
          record {
            some = g.some;
            most = within;
            long = k.long;
            put = λ t f w.
                group_put s extent t d ns width (length out) f w y c.below base c.rows rows e u out new most n g steady_lane within
                (subst (λ (r : Row). Coated (over (group_four u s d rows (extent.layers / 2) r.at (lane_at ns 2).step (y * width) width)) out (y * width) (y * width + n * width) new) er
                (subst (λ (l : Lane). Coated (over (group_four u s d rows (extent.layers / 2) m.at l.step (y * width) width)) out (y * width) (y * width + n * width) new) ev k));
          }

-- ---- the rows put

pub rows_again : (base rows v : List ℕ) → rows ≡ put_at base 0 v → rows ≡ put_at rows 0 v
rows_again base rows v e = e ∙ sym (ap (λ (l : List ℕ). put_at l 0 v) e ∙ put_over base v v 0 (omega arith) refl)

pub rows_fit : (s : List ℕ) (extent : Extent) (d ns : List ℕ) (y width room n m : ℕ) → SomeLinesFit s extent d ns y width room n → m ≡ n → SomeLinesFit s extent d ns y width room m
rows_fit s extent d ns y width room n m c e = subst (λ (i : ℕ). SomeLinesFit s extent d ns y width room i) (sym e) c
