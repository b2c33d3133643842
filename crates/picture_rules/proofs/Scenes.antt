-- The scene that a line call is about: what the sheet's rules say of its records, and the ratio of main pixels to samples.
-- Assumes nothing.
use Prim.Native.Nat.{ℕ, ◌+◌, ◌-◌, ◌*◌, ◌/◌, ◌%◌, ◌≤◌, ◌<◌, ◌∣◌}
use native.Mathlib.Nat.{div-mul_cancel, mod-eq-zero_of_dvd}
use native.Mathlib.Omega.{arith}
use mathlib.Core.Path.{◌≡◌, refl, sym, ap, subst, ◌∙◌}
use mathlib.Core.Logic.{◌⊎◌, inl, inr, ⊎_elim}
use mathlib.Core.Bool.{Bool, true, ◌||◌, not}
use mathlib.Core.List.{List}
use lib.Dec.{eqb, ltb, lit<, lit≤}
use borrow.Author.Tests.{lt-ltb, ltb-true, eq-eqb}
use Rattle.laws.proofs.Cases.{cond_with, clash}
use Rattle.laws.proofs.Says.{Says, says_eq, says_lt, says_or, says_else}
use Rattle.sheet_rules.specs.declared.Record.{Record}
use Rattle.sheet_rules.specs.declared.Extent.{Extent}
use Rattle.std.specs.Prelude.{Option, Some, None, Result, Ok, Err, ⊤}
use Rattle.sheet_rules.specs.declared.Counts.{Counts}
use Rattle.sheet_rules.specs.Record.{record_at, records, nth}
use Rattle.sheet_rules.specs.Judge.{judge_of}
use Rattle.sheet_rules.specs.Sentences.{Among, Listed, Sheet}
use Rattle.sheet_rules.specs.StripeTable.{extent_of, find_stripe, layer_record}
use Rattle.sheet_rules.proofs.Among.{nth_among}
use Rattle.sheet_rules.proofs.Cut.{records_count, record_nth}
use Rattle.sheet_rules.proofs.Extents.{LayerCount}
use Rattle.sheet_rules.proofs.Theorems.{sheet_accepted}
use Rattle.sheet_rules.proofs.Table.{sheet_table, stripe_found_lem, stripe_missing, layer_found_lem}
use Rattle.pixel_rules.specs.Place.{ratio}
use Rattle.pixel_rules.specs.Planes.{PlaneList}
use Rattle.pixel_rules.specs.Samples.{Scene, record_of, main_of, width_of}
use Rattle.picture_rules.specs.Line.{planes_judged, shows, plane_ruling, scene_ruling, stripe_ruling, sheet_ruling, ruling_of}

-- the sheet is accepted, it has stripe k with line y, and the plane list is judged fine: the scene is of these octets, entries and samples
pub record Stage (s : List ℕ) (pl : PlaneList) (d : List ℕ) (k y : ℕ) (v : Scene) : Type 0 where
  pub records : ℕ
  pub stripes : ℕ
  pub good : judge_of s ≡ Ok (record { records = records; stripes = stripes })
  pub found : find_stripe s k ≡ Some v.extent
  pub line : y < v.extent.height
  pub sheet : v.sheet ≡ s
  pub planes : v.planes ≡ pl.entries
  pub samples : v.samples ≡ d
  pub judged : planes_judged v pl.part 0 0 v.planes ≡ Ok tt

module _ (s : List ℕ) (pl : PlaneList) (d : List ℕ) (k y : ℕ) where
  abbrev staged : Extent → Scene
  staged extent = record { sheet = s; extent = extent; planes = pl.entries; samples = d }

  pub shows_stage : (v : Scene) → ruling_of s pl d k y ≡ shows v → Stage s pl d k y v
  unfolding ruling_of sheet_ruling stripe_ruling scene_ruling
  shows_stage v = by (judge_of s) refl
    where
      of_planes : (n m : ℕ) → judge_of s ≡ Ok (record { records = n; stripes = m }) → (extent : Extent) → find_stripe s k ≡ Some extent → y < extent.height
          → (j : Result ⊤ ℕ) → planes_judged (staged extent) pl.part 0 0 pl.entries ≡ j → plane_ruling (staged extent) j ≡ shows v → Stage s pl d k y v
      of_planes n m g extent f l (Ok tt) e q =
          let z : staged extent ≡ v = cc in
          subst (Stage s pl d k y) z
          (record { records = n; stripes = m; good = g; found = f; line = l; sheet = refl; planes = refl; samples = refl; judged = e })
      of_planes n m g extent f l (Err i) e q = clash cc

      of_stripe : (n m : ℕ) → judge_of s ≡ Ok (record { records = n; stripes = m }) → (x : Option Extent) → find_stripe s k ≡ x → stripe_ruling s pl d y x ≡ shows v → Stage s pl d k y v
      of_stripe n m g (Some extent) f =
          cond_with (λ x. x ≡ shows v → Stage s pl d k y v) (ltb y extent.height)
          (λ t q. of_planes n m g extent f (ltb-true y extent.height t) (planes_judged (staged extent) pl.part 0 0 pl.entries) refl q)
          (λ t q. clash cc)
      of_stripe n m g None f = λ q. clash cc

      by : (x : Result Counts ℕ) → judge_of s ≡ x → sheet_ruling s pl d k y x ≡ shows v → Stage s pl d k y v
      by (Ok c) g q = of_stripe c.records c.stripes g (find_stripe s k) refl q
      by (Err i) g q = clash cc

  pub stage_shows : (v : Scene) → Stage s pl d k y v → ruling_of s pl d k y ≡ shows v
  unfolding ruling_of sheet_ruling stripe_ruling scene_ruling
  stage_shows v g =
      let same : staged v.extent ≡ v = sym (λ i. record { sheet = g.sheet i; extent = v.extent; planes = g.planes i; samples = g.samples i }) in
      let j : planes_judged (staged v.extent) pl.part 0 0 pl.entries ≡ (Ok tt) =
      ap (λ (w : Scene). planes_judged w pl.part 0 0 w.planes) same ∙ g.judged in
      simp (g.good, g.found, lt-ltb y v.extent.height g.line, j) (ap shows same)

-- ---- the records of its stripe

pub record Placed (v : Scene) (k l : ℕ) : Type 0 where
  pub among : Among (record_of v l) (records v.sheet)
  pub stripe : (record_of v l).stripe ≡ k
  pub layer : (record_of v l).layer ≡ l

-- one of the six resolutions divided by another that divides it
abbrev pub Ratio : ℕ → Type 0
Ratio q = (q ≡ 1) ⊎ (q ≡ 2) ⊎ (q ≡ 3) ⊎ (q ≡ 4) ⊎ (q ≡ 6) ⊎ (q ≡ 12)

is_ratio : ℕ → Bool
is_ratio q = eqb q 1 || (eqb q 2 || (eqb q 3 || (eqb q 4 || (eqb q 6 || eqb q 12))))

says_ratio : (q : ℕ) → Says (is_ratio q) (Ratio q)
unfolding is_ratio
says_ratio q = says_or (says_eq q 1) (says_or (says_eq q 2) (says_or (says_eq q 3) (says_or (says_eq q 4) (says_or (says_eq q 6) (says_eq q 12)))))

six : (P : ℕ → Type 0) → P 100 → P 200 → P 300 → P 400 → P 600 → P 1200 → (n : ℕ) → Listed n → P n
six P a b c d e f n (inl z) = subst P (sym z) a
six P a b c d e f n (inr (inl z)) = subst P (sym z) b
six P a b c d e f n (inr (inr (inl z))) = subst P (sym z) c
six P a b c d e f n (inr (inr (inr (inl z)))) = subst P (sym z) d
six P a b c d e f n (inr (inr (inr (inr (inl z))))) = subst P (sym z) e
six P a b c d e f n (inr (inr (inr (inr (inr z))))) = subst P (sym z) f

-- a, unless it divides no b, goes a listed number of times into it
fits : ℕ → ℕ → Bool
fits a b = not (eqb (b % a) 0) || is_ratio (b / a)

fits_listed : (a b : ℕ) → Listed a → Listed b → fits a b ≡ true
unfolding fits is_ratio
fits_listed a b la lb =
    six (λ x. fits x b ≡ true)
    (six (λ x. fits 100 x ≡ true) refl refl refl refl refl refl b lb)
    (six (λ x. fits 200 x ≡ true) refl refl refl refl refl refl b lb)
    (six (λ x. fits 300 x ≡ true) refl refl refl refl refl refl b lb)
    (six (λ x. fits 400 x ≡ true) refl refl refl refl refl refl b lb)
    (six (λ x. fits 600 x ≡ true) refl refl refl refl refl refl b lb)
    (six (λ x. fits 1200 x ≡ true) refl refl refl refl refl refl b lb)
    a la

pub listed_ratio : (a b : ℕ) → Listed a → Listed b → a ∣ b → Ratio (b / a)
unfolding fits
listed_ratio a b la lb d =
    (says_ratio (b / a)).told (sym (ap (λ (t : Bool). not t || is_ratio (b / a)) (eq-eqb (b % a) 0 (mod-eq-zero_of_dvd a d))) ∙ fits_listed a b la lb)

pub ratio_some : (q : ℕ) → Ratio q → 0 < q
ratio_some q (inl z) = omega arith
ratio_some q (inr (inl z)) = omega arith
ratio_some q (inr (inr (inl z))) = omega arith
ratio_some q (inr (inr (inr (inl z)))) = omega arith
ratio_some q (inr (inr (inr (inr (inl z))))) = omega arith
ratio_some q (inr (inr (inr (inr (inr z))))) = omega arith

pub ratio_most : (q : ℕ) → Ratio q → q ≤ 12
ratio_most q (inl z) = omega arith
ratio_most q (inr (inl z)) = omega arith
ratio_most q (inr (inr (inl z))) = omega arith
ratio_most q (inr (inr (inr (inl z)))) = omega arith
ratio_most q (inr (inr (inr (inr (inl z))))) = omega arith
ratio_most q (inr (inr (inr (inr (inr z))))) = omega arith

pub listed_some : (n : ℕ) → Listed n → 0 < n
listed_some n l = six (λ m. 0 < m) (lit< tt) (lit< tt) (lit< tt) (lit< tt) (lit< tt) (lit< tt) n l

module _ {s : List ℕ} {pl : PlaneList} {d : List ℕ} {k y : ℕ} {v : Scene} (g : Stage s pl d k y v) where
  pub stage_sheet : Sheet (records s)
  stage_sheet = ((sheet_accepted s g.records g.stripes).0 g.good).sheet

  pub stage_stripe : k < g.stripes
  stage_stripe =
      ⊎_elim (λ (h : k < g.stripes). h)
      (λ (h : k < g.stripes → ⊥). let m = stripe_missing s g.records g.stripes g.good k (omega arith) in let f = g.found in clash cc)
      (says_else (says_lt k g.stripes))

  pub stage_extent : v.extent ≡ extent_of k (records s)
  stage_extent = let f = g.found in let e = stripe_found_lem s g.records g.stripes g.good k stage_stripe in cc

  -- layers 1 to N, N odd, 3 to 15
  pub stage_layers : LayerCount v.extent.layers
  stage_layers =
      let c = ((sheet_accepted s g.records g.stripes).0 g.good).stripes in
      let h = stage_stripe in
      subst (λ (extent : Extent). LayerCount extent.layers) (sym stage_extent) ((sheet_table (records s) stage_sheet).layers k (omega arith))

  pub stage_record : (l : ℕ) → record_of v l ≡ record_at s ((extent_of k (records s)).first + (l - 1))
  unfolding layer_record
  stage_record l = let a = stage_extent in let b = g.sheet in cc

  -- layer l of the stripe is a record of the sheet with these numbers
  pub stage_placed : (l : ℕ) → 1 ≤ l → l ≤ v.extent.layers → Placed v k l
  stage_placed l a b =
      let i : ℕ = (extent_of k (records s)).first + (l - 1) in
      let b' : l ≤ (extent_of k (records s)).layers = subst (λ (extent : Extent). l ≤ extent.layers) stage_extent b in
      let f = layer_found_lem s g.records g.stripes g.good k l a b' in
      let e = stage_record l in
      let w = f.3 in
      let c = ((sheet_accepted s g.records g.stripes).0 g.good).count in
      let n = records_count s in
      let h : nth (records s) i ≡ record_of v l = record_nth s i (omega arith) ∙ sym e in
      record {
        among = subst (λ (t : List ℕ). Among (record_of v l) (records t)) (sym g.sheet) (subst (λ (r : Record). Among r (records s)) h (nth_among (records s) i (omega arith)));
        stripe = ap (λ (r : Record). r.stripe) e ∙ f.1;
        layer = ap (λ (r : Record). r.layer) e ∙ f.2;
      }

  stage_among : (l : ℕ) → 1 ≤ l → l ≤ v.extent.layers → Among (record_of v l) (records s)
  stage_among l a b = subst (λ (t : List ℕ). Among (record_of v l) (records t)) g.sheet (stage_placed l a b).among

  -- the ratio of each layer: one of six, and as often as it says the layer's resolution is the main one
  pub scene_ratio : (l : ℕ) → 1 ≤ l → l ≤ v.extent.layers → Ratio (ratio (main_of v) (record_of v l)) × (ratio (main_of v) (record_of v l) * (record_of v l).res ≡ main_of v)
  scene_ratio l a b =
      let c = stage_layers in
      let u = stage_sheet.unbroken in
      let two = stage_placed 2 (omega arith) (omega arith) in
      let two' = stage_among 2 (omega arith) (omega arith) in
      let p = stage_placed l a b in
      let q = stage_among l a b in
      let dv = u.divides (record_of v l) (record_of v 2) q two' (p.stripe ∙ sym two.stripe, two.layer) in
      (listed_ratio (record_of v l).res (main_of v) (u.listed (record_of v l) q) (u.listed (record_of v 2) two') dv, div-mul_cancel (record_of v l).res dv)

  pub scene_ratio_some : (l : ℕ) → 1 ≤ l → l ≤ v.extent.layers → 0 < ratio (main_of v) (record_of v l)
  scene_ratio_some l a b = ratio_some (ratio (main_of v) (record_of v l)) (scene_ratio l a b).0

  pub scene_res : (l : ℕ) → 1 ≤ l → l ≤ v.extent.layers → 0 < (record_of v l).res
  scene_res l a b = listed_some (record_of v l).res (stage_sheet.unbroken.listed (record_of v l) (stage_among l a b))

  -- the page's width, and the stripe's height: those of layer 2
  pub scene_width : (1 ≤ width_of v) × (width_of v ≤ 32768)
  scene_width =
      let c = stage_layers in
      stage_sheet.unbroken.wide (record_of v 2) (stage_among 2 (omega arith) (omega arith)) (stage_placed 2 (omega arith) (omega arith)).layer

  pub scene_height : v.extent.height ≡ (record_of v 2).height
  scene_height =
      let c = ((sheet_accepted s g.records g.stripes).0 g.good).stripes in
      let h = stage_stripe in
      let m = stage_layers in
      let m1 = m.1 in
      let two : 2 ≤ (extent_of k (records s)).layers = subst (λ (extent : Extent). 2 ≤ extent.layers) stage_extent (omega arith) in
      let i : ℕ = (extent_of k (records s)).first + 1 in
      let w = (layer_found_lem s g.records g.stripes g.good k 2 (lit≤ tt) two).3 in
      let n = ((sheet_accepted s g.records g.stripes).0 g.good).count in
      let l = records_count s in
      let r : nth (records s) i ≡ record_of v 2 = record_nth s i (omega arith) ∙ sym (stage_record 2) in
      ap (λ (extent : Extent). extent.height) stage_extent ∙ (sheet_table (records s) stage_sheet).height k (omega arith) ∙ ap (λ (x : Record). x.height) r
