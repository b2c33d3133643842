-- The steps of a line call and the sentences: the plane list is judged fine exactly if no entry is at fault, and how each ruling comes about.
-- Assumes nothing.
use Prim.Native.Nat.{ℕ, zero, suc, ◌+◌, ◌≤◌, ◌<◌}
use native.Mathlib.Omega.{arith}
use mathlib.Core.Path.{◌≡◌, refl, sym, subst, ◌∙◌}
use mathlib.Core.Logic.{inl, inr, ⊎_elim}
use mathlib.Core.Bool.{Bool, true, false, false≢true}
use mathlib.Core.List.{List, [], ◌∷◌}
use lib.ListN.{length}
use lib.Dec.{ltb}
use borrow.Author.Tests.{ltb-true, ltb-false}
use Rattle.laws.proofs.Cases.{cond_with}
use Rattle.laws.proofs.Says.{Says, says_eq, says_le, says_lt, says_and, says_not, says_else}
use Rattle.answers.specs.declared.Refusal.TheVariants.{BadSheet, BadLine, BadPlane}
use Rattle.std.specs.Prelude.{Some, Result, Ok, Err, ⊤}
use Rattle.sheet_rules.specs.declared.Counts.{Counts}
use Rattle.sheet_rules.specs.Record.{records}
use Rattle.sheet_rules.specs.Judge.{judge_of, answer_of}
use Rattle.sheet_rules.specs.Sentences.{Coded, BadSheetAt}
use Rattle.sheet_rules.specs.StripeTable.{extent_of, find_stripe}
use Rattle.sheet_rules.proofs.Theorems.{sheet_accepted, sheet_refused}
use Rattle.sheet_rules.proofs.Table.{stripe_found_lem, stripe_missing}
use Rattle.pixel_rules.specs.declared.Plane.{Plane}
use Rattle.pixel_rules.specs.Planes.{PlaneList}
use Rattle.pixel_rules.specs.Samples.{Scene, record_of, plane_span}
use Rattle.picture_rules.specs.Line.{plane_ok, planes_judged, Ruling, shows, refused, plane_ruling, scene_ruling, stripe_ruling, sheet_ruling, ruling_of}
use Rattle.picture_rules.specs.Sentences.{HasLine, scene_of, plane, FineEntry, AllFine, PlaneAt}
use Rattle.sheet_rules.specs.Sentences.{Accepted}

-- ---- one entry, after an entry of layer `last`

abbrev GoodEntry : Scene → ℕ → Plane → Type 0
GoodEntry v last p =
    (((last < p.layer) × (p.layer ≤ v.extent.layers)) × Coded (record_of v p.layer))
    × (p.start + plane_span (record_of v p.layer) ≤ length v.samples)

pub says_plane : (v : Scene) (last : ℕ) (p : Plane) → Says (plane_ok v last p) (GoodEntry v last p)
unfolding plane_ok
says_plane v last p =
    says_and
    (says_and (says_and (says_lt last p.layer) (says_le p.layer v.extent.layers)) (says_not (says_eq (record_of v p.layer).len 0)))
    (says_le (p.start + plane_span (record_of v p.layer)) (length v.samples))

-- the layer before entry i of a list after an entry of layer `last`
abbrev before : ℕ → List Plane → ℕ → ℕ
before last ps zero = last
before last ps (suc i) = (plane ps i).layer

abbrev FineAt : Scene → ℕ → List Plane → ℕ → Type 0
FineAt v last ps i = GoodEntry v (before last ps i) (plane ps i)

-- entry i of a list with one more in front
later : (v : Scene) (last : ℕ) (p : Plane) (ps : List Plane) (i : ℕ) → FineAt v p.layer ps i → FineAt v last (p ∷ ps) (suc i)
later v last p ps zero k = k
later v last p ps (suc i) k = k

sooner : (v : Scene) (last : ℕ) (p : Plane) (ps : List Plane) (i : ℕ) → FineAt v last (p ∷ ps) (suc i) → FineAt v p.layer ps i
sooner v last p ps zero k = k
sooner v last p ps (suc i) k = k

record BreaksAt (v : Scene) (last : ℕ) (ps : List Plane) (i : ℕ) : Type 0 where
  within : i < length ps
  first : (j : ℕ) → j < i → FineAt v last ps j
  broken : FineAt v last ps i → ⊥

all_more : (v : Scene) (last : ℕ) (p : Plane) (ps : List Plane) (n : ℕ) → GoodEntry v last p → ((j : ℕ) → j < n → FineAt v p.layer ps j)
    → (j : ℕ) → j < suc n → FineAt v last (p ∷ ps) j
all_more v last p ps n k f zero h = k
all_more v last p ps n k f (suc j) h = later v last p ps j (f j (omega arith))

-- the list is fine where every entry is and no part follows; else it is at fault at the first that is not, or at the part
module _ (v : Scene) (part : Bool) where
  planes_cases : (last i : ℕ) (ps : List Plane) (P : Result ⊤ ℕ → Type 0)
      → (((j : ℕ) → j < length ps → FineAt v last ps j) → part ≡ false → P (Ok tt))
      → ((j : ℕ) → BreaksAt v last ps j → P (Err (i + j)))
      → (((j : ℕ) → j < length ps → FineAt v last ps j) → part ≡ true → P (Err (i + length ps)))
      → P (planes_judged v part last i ps)
  unfolding planes_judged
  planes_cases last i [] P good bad stop =
      let z : i + 0 ≡ i = omega arith in
      cond_with P part (λ t. subst (λ (n : ℕ). P (Err n)) z (stop (λ j h. absurd (omega arith)) t)) (λ t. good (λ j h. absurd (omega arith)) t)
  planes_cases last i (p ∷ ps) P good bad stop =
      cond_with P (plane_ok v last p)
      (λ t.
      let k = (says_plane v last p).told t in
      planes_cases p.layer (i + 1) ps P
      (λ f n. good (all_more v last p ps (length ps) k f) n)
      (λ j b.
      let z : i + suc j ≡ i + 1 + j = omega arith in
      let w = b.within in
      subst (λ (n : ℕ). P (Err n)) z
      (bad (suc j) (record { within = omega arith; first = all_more v last p ps j k b.first; broken = λ q. b.broken (sooner v last p ps j q) })))
      (λ f n.
      let z : i + suc (length ps) ≡ i + 1 + length ps = omega arith in
      subst (λ (m : ℕ). P (Err m)) z (stop (all_more v last p ps (length ps) k f) n)))
      (λ t.
      let z : i + 0 ≡ i = omega arith in
      subst (λ (n : ℕ). P (Err n)) z
      (bad 0 (record { within = omega arith; first = λ j h. absurd (omega arith); broken = λ k. false≢true (sym t ∙ (says_plane v last p).shown k) })))

-- ---- the same in the words of the sentences

fine_in : (v : Scene) (ps : List Plane) (i : ℕ) → FineAt v 0 ps i → FineEntry v ps i
fine_in v ps zero k = record { rises = k.0.0.0; present = k.0.0.1; coded = k.0.1; within = k.1 }
fine_in v ps (suc i) k = record { rises = k.0.0.0; present = k.0.0.1; coded = k.0.1; within = k.1 }

fine_out : (v : Scene) (ps : List Plane) (i : ℕ) → FineEntry v ps i → FineAt v 0 ps i
fine_out v ps zero k = (((k.rises, k.present), k.coded), k.within)
fine_out v ps (suc i) k = (((k.rises, k.present), k.coded), k.within)

pub planes_answers : (v : Scene) (pl : PlaneList) (P : Result ⊤ ℕ → Type 0) → (AllFine v pl → P (Ok tt)) → ((i : ℕ) → PlaneAt v pl i → P (Err i))
    → P (planes_judged v pl.part 0 0 pl.entries)
planes_answers v pl P good bad =
    planes_cases v pl.part 0 0 pl.entries P
    (λ f n. good (record { entries = λ i h. fine_in v pl.entries i (f i h); whole = n }))
    (λ j b.
    let z : j ≡ 0 + j = omega arith in
    subst (λ (n : ℕ). P (Err n)) z
    (bad j (inl (record { within = b.within; before = λ i h. fine_in v pl.entries i (b.first i h); broken = λ k. b.broken (fine_out v pl.entries j k) }))))
    (λ f n.
    let z : length pl.entries ≡ 0 + length pl.entries = omega arith in
    subst (λ (m : ℕ). P (Err m)) z (bad (length pl.entries) (inr (record { due = refl; before = λ i h. fine_in v pl.entries i (f i h); part = n }))))

-- one entry is at fault at most, and none where all are fine
pub plane_once : (v : Scene) (pl : PlaneList) (i j : ℕ) → PlaneAt v pl i → PlaneAt v pl j → i ≡ j
plane_once v pl i j (inl b) (inl d) =
    let p : i < j → ⊥ = λ h. b.broken (d.before i h) in let q : j < i → ⊥ = λ h. d.broken (b.before j h) in only_equal i j p q
  where
    only_equal : (i j : ℕ) → (i < j → ⊥) → (j < i → ⊥) → i ≡ j
    only_equal i j p q = omega arith
plane_once v pl i j (inl b) (inr d) = absurd (b.broken (d.before i b.within))
plane_once v pl i j (inr b) (inl d) = absurd (d.broken (b.before j d.within))
plane_once v pl i j (inr b) (inr d) = b.due ∙ sym d.due

pub plane_none : (v : Scene) (pl : PlaneList) (i : ℕ) → PlaneAt v pl i → AllFine v pl → ⊥
plane_none v pl i (inl b) f = b.broken (f.entries i b.within)
plane_none v pl i (inr b) f = false≢true (sym f.whole ∙ b.part)

-- ---- the four ways that a ruling can come about

module _ (s : List ℕ) (pl : PlaneList) (d : List ℕ) (k y : ℕ) where
  pub ruling_cases : (P : Ruling → Type 0)
      → ((i : ℕ) → BadSheetAt s i → P (refused (BadSheet i)))
      → (Accepted s → (HasLine s k y → ⊥) → P (refused BadLine))
      → (Accepted s → HasLine s k y → (i : ℕ) → PlaneAt (scene_of s pl d k) pl i → P (refused (BadPlane i)))
      → (Accepted s → HasLine s k y → AllFine (scene_of s pl d k) pl → P (shows (scene_of s pl d k)))
      → P (ruling_of s pl d k y)
  unfolding ruling_of sheet_ruling stripe_ruling scene_ruling answer_of
  ruling_cases P sheet line planes good = by (judge_of s) refl
    where
      of_line : (n m : ℕ) → judge_of s ≡ Ok (record { records = n; stripes = m }) → k < m → P (stripe_ruling s pl d y (Some (extent_of k (records s))))
      of_line n m e h =
          let a = (sheet_accepted s n m).0 e in
          let c = a.stripes in
          cond_with P (ltb y (extent_of k (records s)).height)
          (λ t.
          let has : HasLine s k y = record { stripe = omega arith; line = ltb-true y (extent_of k (records s)).height t } in
          planes_answers (scene_of s pl d k) pl (λ j. P (plane_ruling (scene_of s pl d k) j))
          (λ f. good (a.sheet, a.whole) has f)
          (λ i f. planes (a.sheet, a.whole) has i f))
          (λ t. let f = ltb-false y (extent_of k (records s)).height t in line (a.sheet, a.whole) (λ q. let l = q.line in omega arith))

      of_stripe : (n m : ℕ) → judge_of s ≡ Ok (record { records = n; stripes = m }) → P (stripe_ruling s pl d y (find_stripe s k))
      of_stripe n m e =
          ⊎_elim (λ (h : k < m). subst (λ x. P (stripe_ruling s pl d y x)) (sym (stripe_found_lem s n m e k h)) (of_line n m e h))
          (λ (h : k < m → ⊥).
          let a = (sheet_accepted s n m).0 e in
          let c = a.stripes in
          subst (λ x. P (stripe_ruling s pl d y x)) (sym (stripe_missing s n m e k (omega arith)))
          (line (a.sheet, a.whole) (λ q. let l = q.stripe in omega arith)))
          (says_else (says_lt k m))

      by : (x : Result Counts ℕ) → judge_of s ≡ x → P (sheet_ruling s pl d k y x)
      by (Ok c) e = of_stripe c.records c.stripes e
      by (Err i) e = sheet i ((sheet_refused s i).0 e)
