-- From the highest pair down a pixel is what it is from the lowest up, and known exactly if all image layers that may show are known in one colour.
-- Assumes nothing.
use Prim.Native.Nat.{ℕ, zero, suc}
use native.Mathlib.Omega.{arith}
use mathlib.Core.Path.{◌≡◌, refl, sym, ap, subst, ◌∙◌}
use mathlib.Core.Logic.{◌↔◌, ◌⊎◌, inl, inr, ⊎_elim}
use mathlib.Core.Bool.{Bool, true, false, cond}
use Rattle.laws.proofs.Cases.{clash}
use Rattle.laws.proofs.Says.{says_eq, says_else}
use Rattle.sheet_rules.specs.declared.Colour.{Colour}
use Rattle.pixel_rules.specs.declared.MainPos.{MainPos}
use Rattle.std.specs.Prelude.{Option, Some, None}
use Rattle.pixel_rules.specs.declared.Mask.{Mask}
use Rattle.pixel_rules.specs.declared.Mask.TheVariants.{Zero, One, Hidden}
use Rattle.pixel_rules.specs.Samples.{Scene, pairs_of}
use Rattle.pixel_rules.specs.Content.{SeenAs}
use Rattle.pixel_rules.specs.Decide.{same_colour, agree, pair_step, Stack, decide, stack_at, pixel_at}
use Rattle.pixel_rules.specs.Down.{Way, last, more, Among, passing, candidates, all_agree, down, MayShow}
use Rattle.pixel_rules.proofs.Rule.{agree_self, agree_comm, decide_none, decide_highest}
use Rattle.pixel_rules.proofs.Seen.{seen_known_as}

-- ---- the same pixel

pair_down : (m : Mask) (image : ℕ → Option Colour) (j : ℕ) (w : Way) → all_agree image (passing m j w) ≡ pair_step m (all_agree image w) (image j)
unfolding all_agree passing pair_step
pair_down Zero image j w = refl
pair_down One image j w = refl
pair_down Hidden image j w = agree_comm (image j) (all_agree image w)

pub down_is_decide : (s : Stack) (n : ℕ) → down s n ≡ decide s n
unfolding down
down_is_decide s zero = sym (decide_none s)
down_is_decide s (suc n) =
    pair_down (s.mask (suc n)) s.image (suc n) (candidates s.mask n)
    ∙ ap (λ (low : Option Colour). pair_step (s.mask (suc n)) low (s.image (suc n))) (down_is_decide s n) ∙ sym (decide_highest s n)

-- ---- the candidates are the image layers that may show

-- one more mask on top: the pairs below may show as before, unless it is known to be 1
module _ (mask : ℕ → Mask) (n j : ℕ) where
  may_below : MayShow mask (suc n) j → (j ≡ suc n → ⊥) → MayShow mask n j
  may_below h ne = let m = h.most in record { most = omega arith; own = h.own; above = λ i p q. h.above i p (omega arith) }

  may_under : (mask (suc n) ≡ One → ⊥) → MayShow mask n j → MayShow mask (suc n) j
  may_under free h =
      let m = h.most in
      record {
        most = omega arith;
        own = h.own;
        above = λ i p q. ⊎_elim (λ (e : i ≡ suc n). subst (λ (k : ℕ). mask k ≡ One → ⊥) (sym e) free) (λ (e : i ≡ suc n → ⊥). h.above i p (omega arith)) (says_else (says_eq i (suc n)));
      }

  may_top : (mask (suc n) ≡ Zero → ⊥) → j ≡ suc n → MayShow mask (suc n) j
  may_top free e = record { most = omega arith; own = λ p. subst (λ (k : ℕ). mask k ≡ Zero → ⊥) (sym e) free; above = λ i p q. absurd (omega arith) }

  top_or_below : MayShow mask (suc n) j → (j ≡ suc n) ⊎ MayShow mask n j
  top_or_below h = ⊎_elim (λ (e : j ≡ suc n). inl e) (λ (e : j ≡ suc n → ⊥). inr (may_below h e)) (says_else (says_eq j (suc n)))

among_pair : (mask : ℕ → Mask) (n j : ℕ) (m : Mask) (w : Way) → mask (suc n) ≡ m → Among j w ↔ MayShow mask n j → Among j (passing m (suc n) w) ↔ MayShow mask (suc n) j
unfolding Among passing
among_pair mask n j Zero w e h = (
  λ a. may_under mask n j (λ o. clash cc) (h.0 a),
  λ s. ⊎_elim (λ (t : j ≡ suc n). absurd (s.own (omega arith) (ap mask t ∙ e))) (λ b. h.1 b) (top_or_below mask n j s),
)
among_pair mask n j One w e h = (
  λ t. may_top mask n j (λ z. clash cc) t,
  λ s. ⊎_elim (λ (t : j ≡ suc n). t) (λ (b : MayShow mask n j). let m = b.most in absurd (s.above (suc n) (omega arith) (omega arith) e)) (top_or_below mask n j s),
)
among_pair mask n j Hidden w e h = (
  ⊎_elim (λ (t : j ≡ suc n). may_top mask n j (λ z. clash cc) t) (λ a. may_under mask n j (λ o. clash cc) (h.0 a)),
  λ s. ⊎_elim (λ (t : j ≡ suc n). inl t) (λ b. inr (h.1 b)) (top_or_below mask n j s),
)

pub candidates_told : (mask : ℕ → Mask) (n j : ℕ) → Among j (candidates mask n) ↔ MayShow mask n j
unfolding candidates Among
candidates_told mask zero j =
    (λ e. record { most = omega arith; own = λ p. absurd (omega arith); above = λ i p q. absurd (omega arith) }, λ h. let m = h.most in omega arith)
candidates_told mask (suc n) j = among_pair mask n j (mask (suc n)) (candidates mask n) refl (candidates_told mask n j)

-- ---- known exactly if all that may show are known in one colour

left_known : (p q : Option Colour) (c : Colour) → agree p q ≡ Some c → p ≡ Some c
unfolding agree
left_known (Some d) (Some e) c h = go (same_colour d e) h
  where
    go : (b : Bool) → cond b (Some d) None ≡ Some c → Some d ≡ Some c
    go true k = k
    go false k = clash cc
left_known (Some d) None c h = clash cc
left_known None q c h = clash cc

both_known : (p q : Option Colour) (c : Colour) → agree p q ≡ Some c ↔ (p ≡ Some c) × (q ≡ Some c)
both_known p q c = (λ e. (left_known p q c e, left_known q p c (agree_comm q p ∙ e)), λ h. rw (h.0, h.1) (agree_self (Some c)))

pub all_known : (image : ℕ → Option Colour) (w : Way) (c : Colour) → all_agree image w ≡ Some c ↔ ((j : ℕ) → Among j w → image j ≡ Some c)
unfolding all_agree Among
all_known image (last i) c = (λ e j a. ap image a ∙ e, λ h. h i refl)
all_known image (more i w) c = (
  λ e j. let b = (both_known (image i) (all_agree image w) c).0 e in ⊎_elim (λ (a : j ≡ i). ap image a ∙ b.0) ((all_known image w c).0 b.1 j),
  λ h. (both_known (image i) (all_agree image w) c).1 (h i (inl refl), (all_known image w c).1 (λ j a. h j (inr a))),
)

pub decide_told : (s : Stack) (n : ℕ) (c : Colour) → decide s n ≡ Some c ↔ ((j : ℕ) → MayShow s.mask n j → s.image j ≡ Some c)
unfolding down
decide_told s n c = (
  λ e j h. (all_known s.image (candidates s.mask n) c).0 (down_is_decide s n ∙ e) j ((candidates_told s.mask n j).1 h),
  λ h. sym (down_is_decide s n) ∙ (all_known s.image (candidates s.mask n) c).1 (λ j a. h j ((candidates_told s.mask n j).0 a)),
)

-- ---- demand 3 from the highest pair down

pub down_seen : (v : Scene) (x y : MainPos) (c : Colour) → down (stack_at v x y) (pairs_of v) ≡ Some c ↔ SeenAs v x y c
unfolding pixel_at
down_seen v x y c = (
  λ e. (seen_known_as v x y c).0 (sym (down_is_decide (stack_at v x y) (pairs_of v)) ∙ e),
  λ h. down_is_decide (stack_at v x y) (pairs_of v) ∙ (seen_known_as v x y c).1 h,
)
