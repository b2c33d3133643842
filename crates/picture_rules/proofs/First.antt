-- The first sixteen entries of a plane list decide a line: layers rise, and a stripe of a good sheet has at most 15, so that a list of sixteen entries or
-- more has a fault within those, and a list without a fault is shorter.
-- Assumes nothing.
use Prim.Native.Nat.{ℕ, zero, suc, ◌+◌, ◌≤◌, ◌<◌}
use native.Mathlib.Omega.{arith}
use mathlib.Core.Path.{◌≡◌, refl, sym, ap, ◌∙◌}
use mathlib.Core.Logic.{⊎_elim}
use mathlib.Core.Bool.{Bool, true}
use mathlib.Core.List.{List, [], ◌∷◌}
use lib.ListN.{length, take}
use lib.Seq.{take_all}
use Rattle.laws.proofs.Says.{says_and, says_lt, says_le, says_true, says_else}
use Rattle.laws.proofs.Cases.{cond_with, cond_both, clash}
use Rattle.answers.specs.Answers.{Answer}
use Rattle.sheet_rules.specs.declared.Colour.{Colour}
use Rattle.sheet_rules.specs.declared.Extent.{Extent}
use Rattle.std.specs.Prelude.{Option, Some, None, Result, Ok, Err, ⊤}
use Rattle.sheet_rules.specs.declared.Counts.{Counts}
use Rattle.sheet_rules.specs.Record.{records}
use Rattle.sheet_rules.specs.Judge.{judge_of}
use Rattle.sheet_rules.specs.StripeTable.{extent_of, find_stripe, layer_record}
use Rattle.sheet_rules.proofs.Theorems.{sheet_accepted}
use Rattle.sheet_rules.proofs.Table.{sheet_table, stripe_found_lem, stripe_missing}
use Rattle.pixel_rules.specs.declared.Plane.{Plane}
use Rattle.pixel_rules.specs.Planes.{PlaneList}
use Rattle.pixel_rules.specs.Samples.{Scene}
use Rattle.picture_rules.specs.Line.{plane_ok, planes_judged, shows, plane_ruling, scene_ruling, stripe_ruling, sheet_ruling, ruling_of, line_answer, line_of, line_holds, line_into, Lines}

-- ---- the entries of one stripe, judged

module _ (s d : List ℕ) (extent : Extent) (part : Bool) where
  abbrev scene : List Plane → Scene
  scene ps = record { sheet = s; extent = extent; planes = ps; samples = d }

  -- the judge looks at no entry but the one it judges
  ok_same : (ps qs : List Plane) (last : ℕ) (p : Plane) → plane_ok (scene ps) last p ≡ plane_ok (scene qs) last p
  unfolding plane_ok layer_record
  ok_same ps qs last p = refl

  judged_same : (ps qs : List Plane) (last i : ℕ) (ts : List Plane) → planes_judged (scene ps) part last i ts ≡ planes_judged (scene qs) part last i ts
  unfolding planes_judged
  judged_same ps qs last i [] = refl
  judged_same ps qs last i (t ∷ ts) = rw (ok_same ps qs last t, judged_same ps qs t.layer (i + 1) ts) refl

  module _ (ps : List Plane) where
    -- an entry that is kept is above the last and present
    ok_rises : (last : ℕ) (p : Plane) → plane_ok (scene ps) last p ≡ true → (last < p.layer) × (p.layer ≤ extent.layers)
    unfolding plane_ok
    ok_rises last p e = ((says_and (says_and (says_and (says_lt last p.layer) (says_le p.layer extent.layers)) (says_true _)) (says_true _)).told e).0.0

    judged_first : (m last i : ℕ) (ts : List Plane) → last ≤ extent.layers → extent.layers < last + m → planes_judged (scene ps) part last i (take m ts) ≡ planes_judged (scene ps) part last i ts
    unfolding planes_judged
    judged_first zero last i ts h g = absurd (omega arith)
    judged_first (suc m) last i [] h g = refl
    judged_first (suc m) last i (t ∷ ts) h g =
        cond_both (λ (a b : Result ⊤ ℕ). a ≡ b) (plane_ok (scene ps) last t)
        (λ e. let r = ok_rises last t e in judged_first m t.layer (i + 1) ts r.1 (omega arith))
        (λ e. refl)

    fine_short : (last i : ℕ) (ts : List Plane) → last ≤ extent.layers → planes_judged (scene ps) part last i ts ≡ Ok tt → last + length ts ≤ extent.layers
    unfolding planes_judged
    fine_short last i [] h = λ e. omega arith
    fine_short last i (t ∷ ts) h =
        cond_with (λ (a : Result ⊤ ℕ). a ≡ Ok tt → last + suc (length ts) ≤ extent.layers) (plane_ok (scene ps) last t)
        (λ k e. let r = ok_rises last t k in let f = fine_short t.layer (i + 1) ts r.1 e in omega arith)
        (λ k e. clash cc)

  same_if : extent.layers ≤ 15 → (ps : List Plane) (j : Result ⊤ ℕ) → planes_judged (scene ps) part 0 0 ps ≡ j → plane_ruling (scene (take 16 ps)) j ≡ plane_ruling (scene ps) j
  same_if h ps (Ok tt) e = let f = fine_short ps 0 0 ps (omega arith) e in ap (λ (qs : List Plane). shows (scene qs)) (take_all 16 ps (omega arith))
  same_if h ps (Err i) e = refl

  scene_first : extent.layers ≤ 15 → (ps : List Plane) → scene_ruling (scene (take 16 ps)) part ≡ scene_ruling (scene ps) part
  unfolding scene_ruling
  scene_first h ps =
      ap (plane_ruling (scene (take 16 ps))) (judged_same (take 16 ps) ps 0 0 (take 16 ps) ∙ judged_first ps 16 0 0 ps (omega arith) (omega arith))
      ∙ same_if h ps (planes_judged (scene ps) part 0 0 ps) refl

-- ---- a stripe of a good sheet has at most 15 layers

row_in : Option Extent → Extent → Extent
row_in (Some r) z = r
row_in None z = z

layers_few : (s : List ℕ) (n m k : ℕ) (extent : Extent) → judge_of s ≡ Ok (record { records = n; stripes = m }) → find_stripe s k ≡ Some extent → extent.layers ≤ 15
unfolding row_in
layers_few s n m k extent e f =
    ⊎_elim
    (λ (h : k < m).
    let g = (sheet_accepted s n m).0 e in
    let st = g.stripes in
    let c = (sheet_table (records s) g.sheet).layers k (omega arith) in
    let q : extent ≡ extent_of k (records s) = ap (λ (x : Option Extent). row_in x extent) (sym f ∙ stripe_found_lem s n m e k h) in
    let b : extent.layers ≡ (extent_of k (records s)).layers = ap (λ (r : Extent). r.layers) q in
    omega arith)
    (λ (h : k < m → ⊥). let w = stripe_missing s n m e k (omega arith) in clash cc)
    (says_else (says_lt k m))

-- ---- the call

module _ (s d : List ℕ) (k y : ℕ) (ps : List Plane) (part : Bool) where
  abbrev first : PlaneList
  first = record { entries = take 16 ps; part = part }

  abbrev all : PlaneList
  all = record { entries = ps; part = part }

  in_stripe : (n m : ℕ) → judge_of s ≡ Ok (record { records = n; stripes = m }) → (x : Option Extent) → find_stripe s k ≡ x → stripe_ruling s first d y x ≡ stripe_ruling s all d y x
  unfolding stripe_ruling
  in_stripe n m e None f = refl
  in_stripe n m e (Some extent) f = rw (scene_first s d extent part (layers_few s n m k extent e f) ps) refl

  in_sheet : (v : Result Counts ℕ) → judge_of s ≡ v → sheet_ruling s first d k y v ≡ sheet_ruling s all d k y v
  unfolding sheet_ruling
  in_sheet (Err i) e = refl
  in_sheet (Ok c) e = in_stripe c.records c.stripes e (find_stripe s k) refl

  pub ruling_first : ruling_of s first d k y ≡ ruling_of s all d k y
  unfolding ruling_of
  ruling_first = in_sheet (judge_of s) refl

  -- a line made with the first sixteen entries is a line made with all
  pub lines_first : (u : Colour) (out : List ℕ) (a : Answer) (e : List ℕ) → Lines s first d k y u out a e → Lines s all d k y u out a e
  unfolding line_of line_into
  lines_first u out a e h = record { answers = h.answers ∙ ap (line_answer (length out)) ruling_first; holds = h.holds ∙ ap (line_holds u out y) ruling_first }
