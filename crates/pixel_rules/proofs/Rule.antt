-- Laws of the rule of a pair, and of a pixel decided pair by pair, at either end.
-- Assumes nothing.
use Prim.Native.Nat.{ℕ, zero, suc}
use mathlib.Core.Path.{◌≡◌, refl, sym, ap, ◌∙◌}
use mathlib.Core.Bool.{Bool, true, false, cond}
use borrow.Author.Tests.{eq-eqb}
use Rattle.laws.proofs.Cases.{clash}
use Rattle.laws.proofs.Says.{Says, says_eq, says_and}
use Rattle.sheet_rules.specs.declared.Colour.{Colour}
use Rattle.std.specs.Prelude.{Option, Some, None}
use Rattle.pixel_rules.specs.declared.Mask.TheVariants.{Zero, One, Hidden}
use Rattle.pixel_rules.specs.Decide.{same_colour, agree, pair_step, Stack, decide}

-- ---- two colours

pub same_true : (c d : Colour) → same_colour c d ≡ true → c ≡ d
unfolding same_colour
same_true c d e =
    let h = (says_and (says_and (says_eq c.c0 d.c0) (says_eq c.c1 d.c1)) (says_eq c.c2 d.c2)).told e in
    λ i. record { c0 = h.0.0 i; c1 = h.0.1 i; c2 = h.1 i }

pub same_self : (c : Colour) → same_colour c c ≡ true
unfolding same_colour
same_self c = simp (eq-eqb c.c0 c.c0 refl, eq-eqb c.c1 c.c1 refl, eq-eqb c.c2 c.c2 refl)

pub same_false : (c d : Colour) → same_colour c d ≡ false → c ≡ d → ⊥
same_false c d e p = clash (cc (same_self c))

-- the test is true exactly of equal colours
pub says_same : (c d : Colour) → Says (same_colour c d) (c ≡ d)
says_same c d = record { told = same_true c d; shown = λ p. ap (same_colour c) (sym p) ∙ same_self c }

-- ---- what two samples agree on

pub agree_self : (s : Option Colour) → agree s s ≡ s
unfolding agree
agree_self (Some c) = simp (same_self c)
agree_self None = refl

pub agree_unknown : (s : Option Colour) → agree s None ≡ None
unfolding agree
agree_unknown (Some c) = refl
agree_unknown None = refl

pub agree_differ : (c d : Colour) → (c ≡ d → ⊥) → agree (Some c) (Some d) ≡ None
unfolding agree
agree_differ c d h = go (same_colour c d) refl
  where
    go : (b : Bool) → same_colour c d ≡ b → cond b (Some c) None ≡ None
    go true e = absurd (h (same_true c d e))
    go false e = refl

pub agree_comm : (s t : Option Colour) → agree s t ≡ agree t s
unfolding agree
agree_comm (Some c) (Some d) = go (same_colour c d) refl
  where
    go : (b : Bool) → same_colour c d ≡ b → agree (Some c) (Some d) ≡ agree (Some d) (Some c)
    go true e = ap (λ x. agree (Some c) (Some x)) (sym (same_true c d e)) ∙ ap (λ x. agree (Some x) (Some c)) (same_true c d e)
    go false e = agree_differ c d (same_false c d e) ∙ sym (agree_differ d c (λ p. same_false c d e (sym p)))
agree_comm (Some c) None = refl
agree_comm None (Some d) = refl
agree_comm None None = refl

pub agree_assoc : (s t u : Option Colour) → agree (agree s t) u ≡ agree s (agree t u)
unfolding agree
agree_assoc None t u = refl
agree_assoc (Some c) None u = refl
agree_assoc (Some c) (Some d) None = agree_unknown (agree (Some c) (Some d))
agree_assoc (Some c) (Some d) (Some e) = go (same_colour c d) refl (same_colour d e) refl
  where
    go : (a : Bool) → same_colour c d ≡ a → (b : Bool) → same_colour d e ≡ b → agree (agree (Some c) (Some d)) (Some e) ≡ agree (Some c) (agree (Some d) (Some e))
    go true p b q =
        let z = same_true c d p in
        ap (λ x. agree (agree (Some c) (Some x)) (Some e)) (sym z) ∙ ap (λ x. agree x (Some e)) (agree_self (Some c))
        ∙ rest (same_colour c e) refl ∙ ap (λ x. agree (Some c) (agree (Some x) (Some e))) z
      where
        rest : (x : Bool) → same_colour c e ≡ x → agree (Some c) (Some e) ≡ agree (Some c) (agree (Some c) (Some e))
        rest true r = rw (← same_true c e r, agree_self (Some c), agree_self (Some c))
        rest false r = rw (agree_differ c e (same_false c e r)) (sym (agree_unknown (Some c)))
    go false p true q =
        let z = same_true d e q in
        ap (λ x. agree (agree (Some c) (Some d)) (Some x)) (sym z) ∙ ap (λ x. agree x (Some d)) (agree_differ c d (same_false c d p))
        ∙ sym (agree_differ c d (same_false c d p)) ∙ ap (λ x. agree (Some c) x) (sym (agree_self (Some d))) ∙ ap (λ x. agree (Some c) (agree (Some d) (Some x))) z
    go false p false q =
        ap (λ x. agree x (Some e)) (agree_differ c d (same_false c d p)) ∙ sym (ap (λ x. agree (Some c) x) (agree_differ d e (same_false d e q)) ∙ agree_unknown (Some c))

-- ---- a pair over what lies below

pub step_zero : (low up : Option Colour) → pair_step Zero low up ≡ low
unfolding pair_step
step_zero low up = refl

pub step_one : (low up : Option Colour) → pair_step One low up ≡ up
unfolding pair_step
step_one low up = refl

pub step_hidden : (low up : Option Colour) → pair_step Hidden low up ≡ agree low up
unfolding pair_step
step_hidden low up = refl

-- ---- a pixel, pair by pair

pub decide_none : (s : Stack) → decide s 0 ≡ s.image 0
unfolding decide
decide_none s = refl

-- the highest pair is the last step
pub decide_highest : (s : Stack) (n : ℕ) → decide s (suc n) ≡ pair_step (s.mask (suc n)) (decide s n) (s.image (suc n))
unfolding decide
decide_highest s n = refl

-- layer 1, mask 2 and layer 3 taken as one lowest layer; the pairs above them come down by one
abbrev merged_image : Stack → ℕ → Option Colour
merged_image s zero = pair_step (s.mask 1) (s.image 0) (s.image 1)
merged_image s (suc k) = s.image (suc (suc k))

abbrev pub merged : Stack → Stack
merged s = record { mask = λ k. s.mask (suc k); image = λ k. merged_image s k }

-- the lowest pair is the first step
pub decide_lowest : (s : Stack) (n : ℕ) → decide s (suc n) ≡ decide (merged s) n
unfolding decide
decide_lowest s zero = refl
decide_lowest s (suc n) = ap (λ x. pair_step (s.mask (suc (suc n))) x (s.image (suc (suc n)))) (decide_lowest s n)
