-- The samples that a scene reads lie within the sample buffer.
-- Assumes nothing.
use Prim.Native.Nat.{ℕ, suc, ◌+◌, ◌*◌, ◌≤◌, ◌<◌}
use native.Mathlib.Omega.{arith}
use mathlib.Core.Path.{◌≡◌, sym, ap, subst, ◌∙◌}
use mathlib.Core.Logic.{⊎_elim}
use mathlib.Core.Bool.{true}
use mathlib.Core.List.Memᴰ
use mathlib.Core.List.{List, [], ◌∷◌, Memᴰ}
use lib.ListN.{length}
use Rattle.laws.proofs.Cases.{clash}
use Rattle.sheet_rules.specs.Sentences.{Coded}
use Rattle.pixel_rules.specs.declared.MainPos.{MainPos}
use Rattle.pixel_rules.specs.declared.Plane.{Plane}
use Rattle.std.specs.Prelude.{Some, Ok}
use Rattle.pixel_rules.specs.Place.{inside}
use Rattle.pixel_rules.specs.Planes.{PlaneList, plane_start}
use Rattle.pixel_rules.specs.Samples.{Scene, record_of, main_of, index_of, depth, plane_span}
use Rattle.picture_rules.specs.Line.{planes_judged}
use Rattle.picture_rules.specs.Sentences.{plane, layer_before, AllFine}
use Rattle.pixel_rules.proofs.Division.{sample_within}
use Rattle.picture_rules.proofs.Scenes.{Stage}
use Rattle.picture_rules.proofs.Ruled.{planes_answers}
use Rattle.pixel_rules.proofs.Starts.{start_among}

-- ---- what a start that is found says of its layer

pub among_plane : (ps : List Plane) (p : Plane) → Memᴰ p ps → (i : ℕ) × (i < length ps) × (plane ps i ≡ p)
among_plane [] p m = absurd (Memᴰ.not-nil m)
among_plane (q ∷ ps) p m =
    ⊎_elim (λ (e : p ≡ q). (0, omega arith, sym e)) (λ (k : Memᴰ p ps). let r = among_plane ps p k in let h = r.1 in (suc r.0, omega arith, r.2))
    (Memᴰ.cases_cons m)

before_some : (ps : List Plane) (i l : ℕ) → layer_before ps i < l → 1 ≤ l
before_some ps i l h = omega arith

pub record Read (v : Scene) (l a : ℕ) : Type 0 where
  pub least : 1 ≤ l
  pub most : l ≤ v.extent.layers
  pub coded : Coded (record_of v l)
  pub room : a + plane_span (record_of v l) ≤ length v.samples

pub start_read_lem : (v : Scene) (pl : PlaneList) → AllFine v pl → (l a : ℕ) → plane_start pl.entries l ≡ Some a → Read v l a
start_read_lem v pl f l a e =
    let n = start_among pl.entries l a e in
    let i = among_plane pl.entries n.p n.among in
    let g = f.entries i.0 i.1 in
    let z : (plane pl.entries i.0).layer ≡ l = ap (λ (p : Plane). p.layer) i.2 ∙ n.layer in
    let b : (plane pl.entries i.0).start ≡ a = ap (λ (p : Plane). p.start) i.2 ∙ n.start in
    record {
      least = before_some pl.entries i.0 l (subst (λ (j : ℕ). layer_before pl.entries i.0 < j) z g.rises);
      most = subst (λ (j : ℕ). j ≤ v.extent.layers) z g.present;
      coded = subst (λ (j : ℕ). Coded (record_of v j)) z g.coded;
      room = subst (λ (j : ℕ). j + plane_span (record_of v l) ≤ length v.samples) b (subst (λ (j : ℕ). (plane pl.entries i.0).start + plane_span (record_of v j) ≤ length v.samples) z g.within);
    }

-- ---- the octets of a sample that is read are there

module _ {s : List ℕ} {pl : PlaneList} {d : List ℕ} {k y : ℕ} {v : Scene} (g : Stage s pl d k y v) where
  pub stage_fine : AllFine v pl
  stage_fine =
      planes_answers v pl (λ j. j ≡ Ok tt → AllFine v pl) (λ f e. f) (λ i f e. clash cc)
      (ap (λ (ps : List Plane). planes_judged v pl.part 0 0 ps) (sym g.planes) ∙ g.judged)

  module _ (l a : ℕ) (e : plane_start v.planes l ≡ Some a) (x z : MainPos) (o : inside (main_of v) (record_of v l) x z ≡ true) where
    stage_read : Read v l a
    stage_read = start_read_lem v pl stage_fine l a (ap (λ (ps : List Plane). plane_start ps l) (sym g.planes) ∙ e)

    pub sample_there : a + index_of (main_of v) (record_of v l) x z * depth (record_of v l) + depth (record_of v l) ≤ length v.samples
    sample_there =
        let i = sample_within (main_of v) (record_of v l) x z o in
        let w = stage_read.room in
        omega arith
