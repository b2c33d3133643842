-- Both layers of a pair: chosen at once, or one laid and the other put over it.
-- Assumes nothing.
use Prim.Native.Nat.{ℕ, ◌+◌, ◌-◌, ◌*◌, ◌≤◌, ◌<◌}
use native.Mathlib.Omega.{arith}
use mathlib.Core.Path.{◌≡◌, ap, ap₂, ◌∙◌}
use mathlib.Core.Bool.{cond}
use mathlib.Core.List.{List}
use lib.Dec.{eqb}
use Rattle.paint_words.specs.Words.{four_from}
use Rattle.paint_coat.specs.Coat.{Coated, over, kept, chosen_by}
use Rattle.paint_coat.proofs.Coats.{coated_as}
use Rattle.paint_image.specs.Image.{moved}
use Rattle.paint_layer.proofs.Parts.{Shows, up_to}

-- a coat over a coat
coated_after : (f g h : ℕ → List ℕ → List ℕ) (l o e : List ℕ) (x y : ℕ) → Coated f l x y o → Coated g o x y e
    → ((p : ℕ) (old : List ℕ) → x ≤ p → p < y → g p (f p old) ≡ h p old) → Coated h l x y e
coated_after f g h l o e x y c k s =
    record {
      long = k.long ∙ c.long;
      there = λ p a b. k.there p a b ∙ ap (g p) (c.there p a b) ∙ s p (four_from l (p * 4)) a b;
      before = λ i j. k.before i j ∙ c.before i j;
      behind = λ i j. k.behind i j ∙ c.behind i j;
    }

module _ (mask : ℕ → ℕ) (low up : ℕ → List ℕ) (l e : List ℕ) (x y : ℕ) (h : x ≤ y) where
  pub both_chosen : (f g : ℕ → List ℕ) → Shows f low x y → Shows g up x y → Coated (chosen_by mask (over f) (over g)) l x (x + (y - x)) e
      → Coated (chosen_by mask (over low) (over up)) l x y e
  unfolding chosen_by over
  both_chosen f g s t c =
      coated_as (chosen_by mask (over f) (over g)) (chosen_by mask (over low) (over up)) l e x y
      (λ p o a b. ap₂ (λ (i j : List ℕ). cond (eqb (mask p) 0) i j) (s.same p a b) (t.same p a b)) (up_to l e x y h (chosen_by mask (over f) (over g)) c)

  pub low_laid : (o : List ℕ) → Coated (over (moved x x low)) l x (x + (y - x)) o → Coated (chosen_by mask kept (over up)) o x y e
      → Coated (chosen_by mask (over low) (over up)) l x y e
  unfolding chosen_by over kept moved
  low_laid o c k =
      coated_after (over (moved x x low)) (chosen_by mask kept (over up)) (chosen_by mask (over low) (over up)) l o e x y (up_to l o x y h (over (moved x x low)) c) k
      (λ p old a b. let z : x + (p - x) ≡ p = omega arith in ap (λ (i : ℕ). cond (eqb (mask p) 0) (low i) (up p)) z)

  pub up_laid : (f : ℕ → List ℕ) (o : List ℕ) → Shows f low x y → Coated (over (moved x x up)) l x (x + (y - x)) o
      → Coated (chosen_by mask (over f) kept) o x y e → Coated (chosen_by mask (over low) (over up)) l x y e
  unfolding chosen_by over kept moved
  up_laid f o s c k =
      coated_after (over (moved x x up)) (chosen_by mask (over f) kept) (chosen_by mask (over low) (over up)) l o e x y (up_to l o x y h (over (moved x x up)) c)
      k
      (λ p old a b.
      let z : x + (p - x) ≡ p = omega arith in
      ap₂ (λ (i : List ℕ) (j : ℕ). cond (eqb (mask p) 0) i (up j)) (s.same p a b) z)
