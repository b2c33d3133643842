-- One law for each way out of the functions of a line's verdict: its premises are what is known there.
-- Assumes nothing.
use Prim.Native.Nat.{ℕ, ◌+◌, ◌-◌, ◌*◌, ◌/◌, ◌≤◌, ◌<◌, min}
use native.Mathlib.Omega.{arith}
use mathlib.Core.Path.{◌≡◌, refl, sym, ap, ap₂, ◌∙◌}
use mathlib.Core.Logic.{◌≢◌}
use mathlib.Core.Bool.{Bool, true, false, ◌&&◌, cond}
use mathlib.Core.List.{List, [], ◌∷◌}
use lib.ListN.{length}
use lib.Dec.{leb}
use borrow.Author.Tests.{eq-eqb, ne_eqb, lt-ltb, le-ltb, le-leb, lt-leb}
use borrow.Author.Rules.{rules}
use Rattle.octets.specs.Entries.{entries_from}
use Rattle.octets.proofs.Entries.{entries_next}
use Rattle.answers.specs.declared.Refusal.TheVariants.{BadSheet, BadPlane, BadLine}
use Rattle.sheet_rules.specs.declared.Record.{Record}
use Rattle.sheet_rules.specs.declared.Extent.{Extent}
use Rattle.std.specs.Prelude.{Option, Some, None, Result, Ok, Err, ⊤}
use Rattle.answers.specs.declared.Refusal.{Refusal}
use Rattle.sheet_rules.specs.declared.Counts.{Counts}
use Rattle.sheet_rules.specs.Record.{record_size, record_at}
use Rattle.sheet_rules.specs.Judge.{coded, judge_of}
use Rattle.sheet_rules.specs.StripeTable.{find_stripe, layer_record}
use Rattle.pixel_rules.specs.declared.Plane.{Plane}
use Rattle.pixel_rules.specs.Planes.{PlaneList}
use Rattle.pixel_rules.specs.Samples.{depth, plane_span}
use Rattle.picture_rules.specs.Line.{plane_ok, planes_judged, plane_ruling, scene_ruling, stripe_ruling, sheet_ruling, ruling_of}
use Rattle.line_planes.specs.declared.Listing.{Listing}
use Rattle.line_sample.proofs.Laws.{product_small}
use Rattle.line_planes.specs.Listing.{entry_of, entries_of}
use Rattle.line_verdict.specs.Ruled.{bare_scene, line_ruling, ruled_of}
use Rattle.sheet_table.specs.Steps.{Whole, JudgedGood}
use Rattle.sheet_table.proofs.Found.{sheet_good, found_whole, fault_small}

-- ---- the span of a plane

pub span_made : (r : Record) (w h each n : ℕ) → w ≡ r.width → h ≡ r.height → (each ≡ depth r) × (each ≤ 3) → (n ≡ w * h * each) × (n < 12884901888)
    → (n ≡ plane_span r) × (n < 12884901888)
unfolding plane_span
span_made r w h each n ew eh ed e = (e.0 ∙ ap₂ (λ (i j : ℕ). i * j * each) ew eh ∙ ap (λ (k : ℕ). r.width * r.height * k) ed.0, e.1)

-- ---- an entry

module _ (p : Plane) (r : Record) (room : ℕ) where
  pub within_uncoded : r.len ≡ 0 → false ≡ coded r && leb (p.start + plane_span r) room
  within_uncoded e = simp (eq-eqb r.len 0 e)

  pub within_coded : (n : ℕ) → r.len ≢ 0 → n ≡ plane_span r → leb (p.start + n) room ≡ coded r && leb (p.start + plane_span r) room
  within_coded n d e = simp (ne_eqb r.len 0 d, e)

module _ (s : List ℕ) (extent : Extent) (d : List ℕ) (last : ℕ) (p : Plane) where
  pub plane_low : p.layer ≤ last → false ≡ plane_ok (bare_scene s extent d) last p
  unfolding plane_ok
  plane_low h = simp (le-ltb last p.layer h)

  pub plane_absent : last < p.layer → extent.layers < p.layer → false ≡ plane_ok (bare_scene s extent d) last p
  unfolding plane_ok
  plane_absent h k = simp (lt-ltb last p.layer h, lt-leb p.layer extent.layers k)

  pub plane_there : (r : Record) (b : Bool) → last < p.layer → p.layer ≤ extent.layers → r ≡ record_at s (extent.first + (p.layer - 1))
      → b ≡ coded r && leb (p.start + plane_span r) (length d) → b ≡ plane_ok (bare_scene s extent d) last p
  unfolding plane_ok layer_record
  plane_there r b h k e f = simp (lt-ltb last p.layer h, le-leb p.layer extent.layers k, f, e)

  pub plane_place : Whole s extent → last < p.layer → p.layer ≤ extent.layers → extent.first + (p.layer - 1) < length s / record_size
  plane_place w h k = let r = w.records in omega arith

-- ---- the loop over the entries: the judgement of the whole list is that of what is left

pub record Judging (s : List ℕ) (extent : Extent) (d : List ℕ) (t : Listing) (part : Bool) (n last i : ℕ) : Type 0 where
  pub within : i ≤ n
  pub few : n ≤ 16
  pub left : planes_judged (bare_scene s extent d) part 0 0 (entries_of t) ≡ planes_judged (bare_scene s extent d) part last i (entries_from (entry_of t) (n - i) i)

module _ (s : List ℕ) (extent : Extent) (d : List ℕ) (t : Listing) (part : Bool) (n : ℕ) where
  pub judging_none : n ≡ min t.count 16 → Judging s extent d t part n 0 0
  unfolding entries_of
  judging_none e = record { within = omega arith; few = omega arith; left = let z : min t.count 16 - 0 ≡ min t.count 16 = omega arith in rw (e, z) refl }

  module _ (p : Plane) (b : Bool) (last i : ℕ) (g : Judging s extent d t part n last i) (h : i < n) (e : p ≡ entry_of t i) (k : b ≡ plane_ok (bare_scene s extent d) last p) where
    opened : planes_judged (bare_scene s extent d) part 0 0 (entries_of t) ≡ cond b (planes_judged (bare_scene s extent d) part p.layer (i + 1) (entries_from (entry_of t) (n - (i + 1)) (i + 1))) (Err i)
    unfolding planes_judged
    opened =
        g.left ∙ ap (planes_judged (bare_scene s extent d) part last i) (entries_next (entry_of t) n i h)
        ∙ rw (k, e) refl

    pub judging_more : b ≡ true → Judging s extent d t part n p.layer (i + 1)
    judging_more z = record { within = omega arith; few = g.few; left = opened ∙ rw z refl }

    pub judging_fault : b ≡ false → Err i ≡ planes_judged (bare_scene s extent d) part 0 0 (entries_of t)
    judging_fault z = sym (opened ∙ rw z refl)

  pub judging_part : (last i : ℕ) → Judging s extent d t part n last i → n ≤ i → part ≡ true → Err n ≡ planes_judged (bare_scene s extent d) part 0 0 (entries_of t)
  unfolding planes_judged entries_from
  judging_part last i g h z = let a = g.within in let q : i ≡ n = omega arith in let e : n - n ≡ 0 = omega arith in sym (g.left ∙ rw (q, e, z) refl)

  pub judging_fine : (last i : ℕ) → Judging s extent d t part n last i → n ≤ i → part ≡ false → Ok tt ≡ planes_judged (bare_scene s extent d) part 0 0 (entries_of t)
  unfolding planes_judged entries_from
  judging_fine last i g h z = let a = g.within in let q : i ≡ n = omega arith in let e : n - n ≡ 0 = omega arith in sym (g.left ∙ rw (q, e, z) refl)

-- ---- the ruling on a line, on a stripe, on a sheet

module _ (s : List ℕ) (pl : PlaneList) (d : List ℕ) (y : ℕ) where
  -- an entry is judged without a look at the list
  bare : (extent : Extent) (part : Bool) (last i : ℕ) (ps qs : List Plane)
      → planes_judged (record { sheet = s; extent = extent; planes = qs; samples = d }) part last i ps ≡ planes_judged (bare_scene s extent d) part last i ps
  unfolding planes_judged plane_ok layer_record
  bare extent part last i [] qs = refl
  bare extent part last i (p ∷ ps) qs =
      ap (λ j. cond (plane_ok (bare_scene s extent d) last p) j (Err i)) (bare extent part p.layer (i + 1) ps qs)

  pub line_past : (extent : Extent) → extent.height ≤ y → Err BadLine ≡ ruled_of (line_ruling s pl d y extent)
  unfolding ruled_of stripe_ruling
  line_past extent h = simp (le-ltb y extent.height h)

  module _ (extent : Extent) (h : y < extent.height) where
    on_line : (j : Result ⊤ ℕ) → j ≡ planes_judged (bare_scene s extent d) pl.part 0 0 pl.entries
        → plane_ruling (record { sheet = s; extent = extent; planes = pl.entries; samples = d }) j ≡ line_ruling s pl d y extent
    unfolding stripe_ruling scene_ruling
    on_line j e = rw (lt-ltb y extent.height h) (ap (plane_ruling (record { sheet = s; extent = extent; planes = pl.entries; samples = d })) (e ∙ sym (bare extent pl.part 0 0 pl.entries pl.entries)))

    pub line_fine : (j : Result ⊤ ℕ) → j ≡ planes_judged (bare_scene s extent d) pl.part 0 0 pl.entries → j ≡ Ok tt → Ok extent ≡ ruled_of (line_ruling s pl d y extent)
    unfolding ruled_of
    line_fine j e z = ap ruled_of (rw z at (on_line j e))

    pub line_fault : (j : Result ⊤ ℕ) (i : ℕ) → j ≡ planes_judged (bare_scene s extent d) pl.part 0 0 pl.entries → j ≡ Err i
        → Err (BadPlane i) ≡ ruled_of (line_ruling s pl d y extent)
    unfolding ruled_of
    line_fault j i e z = ap ruled_of (rw z at (on_line j e))

module _ (s : List ℕ) (pl : PlaneList) (d : List ℕ) (k y : ℕ) where
  good_ruling : JudgedGood s → ruling_of s pl d k y ≡ stripe_ruling s pl d y (find_stripe s k)
  unfolding ruling_of sheet_ruling
  good_ruling g = rw g.good refl

  pub stripe_none : (f : Option Extent) → JudgedGood s → f ≡ find_stripe s k → f ≡ None → Err BadLine ≡ ruled_of (ruling_of s pl d k y)
  unfolding ruled_of stripe_ruling
  stripe_none f g e z = sym (ap ruled_of (good_ruling g ∙ ap (stripe_ruling s pl d y) (sym e ∙ z)))

  pub stripe_has : (f : Option Extent) (extent : Extent) (r : Result Extent Refusal) → JudgedGood s → f ≡ find_stripe s k → f ≡ Some extent → r ≡ ruled_of (line_ruling s pl d y extent)
      → r ≡ ruled_of (ruling_of s pl d k y)
  stripe_has f extent r g e z q = q ∙ ap ruled_of (sym (good_ruling g ∙ ap (stripe_ruling s pl d y) (sym e ∙ z)))

  pub sheet_bad : (v : Result Counts ℕ) (i : ℕ) → v ≡ judge_of s → v ≡ Err i → Err (BadSheet i) ≡ ruled_of (ruling_of s pl d k y)
  unfolding ruled_of ruling_of sheet_ruling
  sheet_bad v i e z = rw (← e, z) refl

pub ruleset ruling = (rules, line_past, line_fine, line_fault, stripe_none, stripe_has, sheet_good, sheet_bad, found_whole, fault_small)

pub ruleset spanning = (rules, product_small, span_made, within_uncoded, within_coded)

pub ruleset entering = (rules, plane_low, plane_absent, plane_there, plane_place)

pub ruleset judging = (rules, judging_none, judging_more, judging_fault, judging_part, judging_fine)
