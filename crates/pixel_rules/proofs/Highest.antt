-- Under a content a pixel has the colour of the image layer just above the highest-numbered mask that is 1 there, or of layer 1 where none is.
-- Assumes nothing.
use Prim.Native.Nat.{ℕ, zero, suc, ◌+◌, ◌*◌, ◌<◌, ◌≤◌}
use native.Mathlib.Omega.{arith}
use mathlib.Core.Path.{◌≡◌, refl, sym, ap, subst, ◌∙◌}
use mathlib.Core.Logic.{◌⊎◌, inl, inr, ⊎_elim}
use mathlib.Core.Bool.{Bool, true, false}
use Rattle.laws.proofs.Cases.{bool_else}
use Rattle.laws.proofs.Says.{says_eq, says_else}
use Rattle.pixel_rules.specs.declared.MainPos.{MainPos}
use Rattle.sheet_rules.specs.declared.Colour.{Colour}
use Rattle.pixel_rules.specs.Samples.{Scene, pairs_of}
use Rattle.pixel_rules.specs.Content.{Content, mask_under, image_under, colour_from, colour_under}

-- of the masks 2, 4, up to 2n: mask 2j is 1, and every higher one is 0
pub record Highest (mask : ℕ → Bool) (n j : ℕ) : Type 0 where
  pub least : 1 ≤ j
  pub most : j ≤ n
  pub one : mask (j * 2) ≡ true
  pub above : (i : ℕ) → j < i → i ≤ n → mask (i * 2) ≡ false

-- all of them are 0
abbrev pub AllZero : (ℕ → Bool) → ℕ → Type 0
AllZero mask n = (i : ℕ) → 1 ≤ i → i ≤ n → mask (i * 2) ≡ false

module _ (mask : ℕ → Bool) (image : ℕ → Colour) where
  -- a mask that is 0 keeps what lies below, and one that is 1 takes the layer just above
  from_zero : (n : ℕ) → mask (suc n * 2) ≡ false → colour_from mask image (suc n) ≡ colour_from mask image n
  unfolding colour_from
  from_zero n e = rw e

  from_one : (n : ℕ) → mask (suc n * 2) ≡ true → colour_from mask image (suc n) ≡ image (suc n * 2 + 1)
  unfolding colour_from
  from_one n e = rw e

  pub from_highest : (n j : ℕ) → Highest mask n j → colour_from mask image n ≡ image (j * 2 + 1)
  from_highest zero j h = let a = h.least in let b = h.most in absurd (omega arith)
  from_highest (suc n) j h =
      ⊎_elim
      (λ (e : j ≡ suc n).
      from_one n (subst (λ (i : ℕ). mask (i * 2) ≡ true) e h.one) ∙ ap (λ (i : ℕ). image (i * 2 + 1)) (sym e))
      (λ (e : j ≡ suc n → ⊥).
      let b = h.most in
      from_zero n (h.above (suc n) (omega arith) (omega arith))
      ∙ from_highest n j (record { least = h.least; most = omega arith; one = h.one; above = λ i p q. h.above i p (omega arith) }))
      (says_else (says_eq j (suc n)))

  pub from_none : (n : ℕ) → AllZero mask n → colour_from mask image n ≡ image 1
  unfolding colour_from
  from_none zero z = refl
  from_none (suc n) z = from_zero n (z (suc n) (omega arith) (omega arith)) ∙ from_none n (λ i p q. z i p (omega arith))

-- one or the other always is the case
pub highest_or_none : (mask : ℕ → Bool) (n : ℕ) → ((j : ℕ) × Highest mask n j) ⊎ AllZero mask n
highest_or_none mask zero = inr (λ i p q. absurd (omega arith))
highest_or_none mask (suc n) =
    ⊎_elim
    (λ (e : mask (suc n * 2) ≡ true). inl (suc n, record { least = omega arith; most = omega arith; one = e; above = λ i p q. absurd (omega arith) }))
    (λ (e : mask (suc n * 2) ≡ false). ⊎_elim (λ (k : (j : ℕ) × Highest mask n j). inl (k.0, raised e k.0 k.1)) (λ (z : AllZero mask n). inr (further e z)) (highest_or_none mask n))
    (bool_else (mask (suc n * 2)))
  where
    at_most : (P : ℕ → Type 0) (i : ℕ) → i ≤ suc n → P (suc n) → (i ≤ n → P i) → P i
    at_most P i q top low =
        ⊎_elim (λ (e : i ≡ suc n). subst P (sym e) top) (λ (e : i ≡ suc n → ⊥). low (omega arith)) (says_else (says_eq i (suc n)))

    raised : mask (suc n * 2) ≡ false → (j : ℕ) → Highest mask n j → Highest mask (suc n) j
    raised e j h =
        let m = h.most in
        record { least = h.least; most = omega arith; one = h.one; above = λ i p q. at_most (λ l. mask (l * 2) ≡ false) i q e (λ r. h.above i p r) }

    further : mask (suc n * 2) ≡ false → AllZero mask n → AllZero mask (suc n)
    further e z i p q = at_most (λ l. mask (l * 2) ≡ false) i q e (λ r. z i p r)

-- ---- the pairs of a stripe are all that its layers make

module _ (v : Scene) where
  pub pairs_all : (l : ℕ) → l ≤ v.extent.layers → l ≤ pairs_of v * 2 + 1
  pairs_all l h = omega arith

  pub pairs_only : (j : ℕ) → j ≤ pairs_of v → j * 2 ≤ v.extent.layers
  pairs_only j h = omega arith

-- ---- at a place of a scene, under a content

module _ (v : Scene) (w : Content) (x y : MainPos) where
  pub colour_highest : (j : ℕ) → Highest (λ l. mask_under v w l x y) (pairs_of v) j → colour_under v w x y ≡ image_under v w (j * 2 + 1) x y
  unfolding colour_under
  colour_highest j h = from_highest (λ l. mask_under v w l x y) (λ l. image_under v w l x y) (pairs_of v) j h

  pub colour_none : AllZero (λ l. mask_under v w l x y) (pairs_of v) → colour_under v w x y ≡ image_under v w 1 x y
  unfolding colour_under
  colour_none z = from_none (λ l. mask_under v w l x y) (λ l. image_under v w l x y) (pairs_of v) z

  pub colour_either : ((j : ℕ) × Highest (λ l. mask_under v w l x y) (pairs_of v) j) ⊎ AllZero (λ l. mask_under v w l x y) (pairs_of v)
  colour_either = highest_or_none (λ l. mask_under v w l x y) (pairs_of v)
