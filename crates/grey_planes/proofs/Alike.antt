-- Scenes that are alike show the same: each sample, each pixel, each line.
-- Assumes nothing.
use Prim.Native.Nat.{ℕ, zero, suc, ◌+◌, ◌*◌, ◌/◌, ◌%◌, ◌≤◌}
use native.Mathlib.Omega.{arith}
use mathlib.Core.Path.{◌≡◌, refl, ap, ap₂, ◌∙◌}
use mathlib.Core.Bool.{◌&&◌, cond}
use lib.Dec.{eqb}
use Rattle.laws.proofs.Cases.{cond_both}
use Rattle.laws.proofs.Says.{says_and, says_true}
use Rattle.sheet_rules.specs.declared.Colour.{Colour}
use Rattle.sheet_rules.specs.declared.Record.{Record}
use Rattle.sheet_rules.specs.Judge.{coded}
use Rattle.pixel_rules.specs.declared.MainPos.{MainPos}
use Rattle.pixel_rules.specs.declared.Mask.{Mask}
use Rattle.pixel_rules.specs.declared.Mask.TheVariants.{Zero, One}
use Rattle.std.specs.Prelude.{Option, Some}
use Rattle.pixel_rules.specs.Place.{inside}
use Rattle.pixel_rules.specs.Planes.{plane_start}
use Rattle.pixel_rules.specs.Samples.{Scene, record_of, main_of, width_of, pairs_of, depth, index_of, base_of, virtual, mask_read, image_read, mask_at, image_at}
use Rattle.pixel_rules.specs.Decide.{pair_step, Stack, decide, stack_at, pixel_at}
use Rattle.pixel_rules.proofs.Division.{index_within}
use Rattle.picture_rules.specs.Line.{pixels, line_pixels}
use Rattle.grey_planes.specs.Spread.{Alike}

decide_same : (s t : Stack) (n : ℕ) → ((j : ℕ) → 1 ≤ j → t.mask j ≡ s.mask j) → ((j : ℕ) → t.image j ≡ s.image j) → decide t n ≡ decide s n
unfolding decide
decide_same s t zero m i = i 0
decide_same s t (suc n) m i =
    ap₂ (λ a b. pair_step a b (t.image (suc n))) (m (suc n) (omega arith)) (decide_same s t n m i) ∙ ap (pair_step (s.mask (suc n)) (decide s n)) (i (suc n))

module _ (v w : Scene) (a : Alike v w) where
  main_same : main_of w ≡ main_of v
  main_same = ap (λ (r : Record). r.res) (a.records 2)

  pub width_same : width_of w ≡ width_of v
  width_same = ap (λ (r : Record). r.width) (a.records 2)

  virtual_same : (l : ℕ) → virtual w l ≡ virtual v l
  unfolding virtual
  virtual_same l = ap (λ (r : Record). cond (eqb l 2 && coded r) One Zero) (a.records 3)

  module _ (x y : MainPos) where
    pub mask_alike : (l : ℕ) → 1 ≤ l → l % 2 ≡ 0 → mask_at w l x y ≡ mask_at v l x y
    unfolding mask_at inside index_of
    mask_alike l h even =
        ap₂ (λ (r : Record) (m : ℕ). cond (coded r) (cond (inside m r x y) (mask_read w.samples (plane_start w.planes l) (index_of m r x y)) Zero) (virtual w l)) (a.records l) main_same
        ∙ ap (cond (coded (record_of v l)) (cond (inside (main_of v) (record_of v l) x y) (mask_read w.samples (plane_start w.planes l) (index_of (main_of v) (record_of v l) x y)) Zero)) (virtual_same l)
        ∙ cond_both (λ (p q : Mask). p ≡ q) (coded (record_of v l))
        (λ c.
        cond_both (λ (p q : Mask). p ≡ q) (inside (main_of v) (record_of v l) x y)
        (λ i. a.masks l h even (index_of (main_of v) (record_of v l) x y) (index_within (main_of v) (record_of v l) x y i))
        (λ i. refl))
        (λ c. refl)

    pub image_alike : (l : ℕ) → l % 2 ≡ 1 → image_at w l x y ≡ image_at v l x y
    unfolding image_at inside index_of
    image_alike l odd =
        ap₂ (λ (r : Record) (m : ℕ). cond (coded r && inside m r x y) (image_read w.samples (depth (record_of w l)) (plane_start w.planes l) (index_of m r x y)) (Some (base_of r))) (a.records l) main_same
        ∙ cond_both (λ (p q : Option Colour). p ≡ q) (coded (record_of v l) && inside (main_of v) (record_of v l) x y)
        (λ c.
        let i = ((says_and (says_true (coded (record_of v l))) (says_true (inside (main_of v) (record_of v l) x y))).told c).1 in
        a.images l odd (index_of (main_of v) (record_of v l) x y) (index_within (main_of v) (record_of v l) x y i))
        (λ c. refl)

    pub pixel_alike : pixel_at w x y ≡ pixel_at v x y
    unfolding pixel_at
    pixel_alike =
        ap (λ (n : ℕ). decide (stack_at w x y) (n / 2)) a.layers
        ∙ decide_same (stack_at v x y) (stack_at w x y) (pairs_of v) (λ j h. mask_alike (j * 2) (omega arith) (omega arith)) (λ j. image_alike (j * 2 + 1) (omega arith))

  -- the octets of a line, whatever the unseen colour
  pub line_alike : (u : Colour) (y : ℕ) → line_pixels u w y ≡ line_pixels u v y
  unfolding line_pixels
  line_alike u y = ap₂ (λ (f : MainPos → Option Colour) (n : ℕ). pixels u f n) (λ i x. pixel_alike x (record { 0 = y }) i) width_same
