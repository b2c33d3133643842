-- The first of the candidates: what its place on the way tells, and that there is only one.
-- Assumes nothing.
use Prim.Native.Nat.{ℕ, zero, suc, ◌-◌, ◌≤◌}
use native.Mathlib.Omega.{arith}
use mathlib.Core.Path.{◌≡◌, refl, sym, ap, subst, ◌∙◌}
use mathlib.Core.Logic.{inl, inr}
use mathlib.Core.Bool.{Bool, true, false}
use Rattle.laws.proofs.Cases.{cond_with, clash}
use Rattle.pixel_rules.specs.declared.Mask.{Mask}
use Rattle.pixel_rules.specs.declared.Mask.TheVariants.{Zero, One, Hidden}
use Rattle.pixel_rules.specs.Down.{Way, last, more, Among, passing, candidates, MayShow}
use Rattle.pixel_rules.proofs.Down.{candidates_told}
use Rattle.line_pixel.specs.declared.Candidate.{Candidate}
use Rattle.line_pixel.specs.Lead.{way_from}

abbrev first_of : Way → ℕ
first_of (last j) = j
first_of (more j w) = j

abbrev is_last : Way → Bool
is_last (last j) = true
is_last (more j w) = false

module _ (mask : ℕ → Mask) where
  first_from : (c : Candidate) → first_of (way_from mask c) ≡ c.pair
  unfolding way_from
  first_from c = cond_with (λ w. first_of w ≡ c.pair) c.sure (λ e. refl) (λ e. refl)

  last_from : (c : Candidate) → is_last (way_from mask c) ≡ c.sure
  unfolding way_from
  last_from c = cond_with (λ w. is_last w ≡ c.sure) c.sure (λ e. sym e) (λ e. sym e)

  -- the promise of `candidate_from` leaves no choice
  pub lead_firm : (n : ℕ) (c e : Candidate) → candidates mask n ≡ way_from mask c → candidates mask n ≡ way_from mask e → c ≡ e
  lead_firm n c e l m =
      let w = sym l ∙ m in
      let p = sym (first_from c) ∙ ap first_of w ∙ first_from e in
      let q = sym (last_from c) ∙ ap is_last w ∙ last_from e in
      λ i. record { pair = p i; sure = q i }

  -- ---- on the way

  first_among : (c : Candidate) → Among c.pair (way_from mask c)
  unfolding way_from Among
  first_among c = cond_with (Among c.pair) c.sure (λ e. refl) (λ e. inl refl)

  pub below_among : (c : Candidate) (j : ℕ) → c.sure ≡ false → Among j (candidates mask (c.pair - 1)) → Among j (way_from mask c)
  unfolding way_from Among
  below_among c j f a = rw f (inr a)

  -- a candidate on the way may show
  pub may_show : (n : ℕ) (c : Candidate) → ((j : ℕ) → Among j (way_from mask c) → Among j (candidates mask n)) → MayShow mask n c.pair
  may_show n c h = (candidates_told mask n c.pair).0 (h c.pair (first_among c))

  -- ---- only layer 1 has no mask, and it is sure

  some_after : (m : Mask) (n : ℕ) (low : Way) → (is_last low ≡ false → 1 ≤ first_of low) → is_last (passing m (suc n) low) ≡ false → 1 ≤ first_of (passing m (suc n) low)
  unfolding passing
  some_after Zero n low h e = h e
  some_after One n low h e = clash cc
  some_after Hidden n low h e = omega arith

  some_mask : (n : ℕ) → is_last (candidates mask n) ≡ false → 1 ≤ first_of (candidates mask n)
  unfolding candidates
  some_mask zero e = clash cc
  some_mask (suc n) e = some_after (mask (suc n)) n (candidates mask n) (some_mask n) e

  pub unsure_some : (n : ℕ) (c : Candidate) → candidates mask n ≡ way_from mask c → c.sure ≡ false → 1 ≤ c.pair
  unsure_some n c l f =
      subst (λ (k : ℕ). 1 ≤ k) (ap first_of l ∙ first_from c) (some_mask n (ap is_last l ∙ last_from c ∙ f))
