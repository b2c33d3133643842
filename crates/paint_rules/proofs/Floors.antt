-- A floor from pair to pair, and the pixel from the floor up: at the end it is decided.
-- Assumes nothing.
use Prim.Native.Nat.{ℕ, suc, ◌≤◌, ◌<◌}
use native.Mathlib.Omega.{arith}
use mathlib.Core.Path.{◌≡◌, refl, sym, ap, subst, ◌∙◌}
use mathlib.Core.Logic.{◌≢◌, ⊎_elim}
use borrow.Author.Tests.{eq-eqb, ne_eqb, le-leb, lt-leb}
use Rattle.laws.proofs.Says.{says_eq, says_le, says_lt, says_else}
use Rattle.std.specs.Prelude.{Option, Some, None}
use Rattle.sheet_rules.specs.declared.Colour.{Colour}
use Rattle.pixel_rules.specs.declared.Mask.{Mask}
use Rattle.pixel_rules.specs.declared.Mask.TheVariants.{Zero, One, Hidden}
use Rattle.pixel_rules.specs.Decide.{Stack, agree, pair_step, decide}
use Rattle.paint_rules.specs.Floor.{dark, Settled, chosen, stage, Step, stays, taken, lost}

-- ---- what is not known stays so

agree_lost : (p : Option Colour) → agree p None ≡ None
unfolding agree
agree_lost (Some c) = refl
agree_lost None = refl

step_lost : (m : Mask) (up : Option Colour) → m ≢ One → pair_step m None up ≡ None
unfolding pair_step agree
step_lost Zero up n = refl
step_lost One up n = absurd (n refl)
step_lost Hidden up n = refl

step_dark : (m : Mask) (low up : Option Colour) → m ≢ Zero → up ≡ None → pair_step m low up ≡ None
unfolding pair_step
step_dark Zero low up n e = absurd (n refl)
step_dark One low up n e = e
step_dark Hidden low up n e = ap (agree low) e ∙ agree_lost low

-- ---- the first floor

module _ (st : Stack) (f : ℕ) where
  pub settled_first : f ≢ dark → decide st f ≡ st.image f → Settled st f f f
  settled_first n e = record { least = λ d. omega arith; most = λ d. omega arith; sure = λ d. e; above = λ d p g h. absurd (omega arith); lost = λ d. absurd (n d) }

  pub settled_dark : (j : ℕ) → decide st j ≡ None → Settled st f dark j
  settled_dark j e =
      record { least = λ d. absurd (d refl); most = λ d. absurd (d refl); sure = λ d. absurd (d refl); above = λ d p g h. absurd (d refl); lost = λ d. e }

-- ---- one pair more

module _ (st : Stack) (f c j : ℕ) (g : Settled st f c j) where
  pub settled_stays : st.mask (suc j) ≢ One → Settled st f c (suc j)
  unfolding decide
  settled_stays n =
      record {
        least = g.least;
        most = λ d. let h = g.most d in omega arith;
        sure = g.sure;
        above = λ d p a b. ⊎_elim
            (λ (z : p < suc j). g.above d p a (omega arith))
            (λ (z : p < suc j → ⊥). let y : p ≡ suc j = omega arith in subst (λ (i : ℕ). st.mask i ≢ One) (sym y) n)
            (says_else (says_lt p (suc j)));
        lost = λ d. ap (λ (low : Option Colour). pair_step (st.mask (suc j)) low (st.image (suc j))) (g.lost d) ∙ step_lost (st.mask (suc j)) (st.image (suc j)) n;
      }

  pub settled_step : (c' : ℕ) → f ≤ j → suc j ≢ dark → Step st (suc j) c c' → Settled st f c' (suc j)
  unfolding decide pair_step
  settled_step c' h n (stays m e) = subst (λ (i : ℕ). Settled st f i (suc j)) (sym e) (settled_stays m)
  settled_step c' h n (taken m e) =
      subst (λ (i : ℕ). Settled st f i (suc j)) (sym e)
      (record {
        least = λ d. omega arith;
        most = λ d. omega arith;
        sure = λ d. ap (λ (o : Mask). pair_step o (decide st j) (st.image (suc j))) m;
        above = λ d p a b. absurd (omega arith);
        lost = λ d. absurd (n d);
      })
  settled_step c' h n (lost m u e) =
      subst (λ (i : ℕ). Settled st f i (suc j)) (sym e) (settled_dark st f (suc j) (step_dark (st.mask (suc j)) (decide st j) (st.image (suc j)) m u))

-- ---- from the floor up

module _ (st : Stack) (f c n : ℕ) (g : Settled st f c n) where
  -- what is laid is the first stage
  pub chosen_stage : chosen st c ≡ stage st c f
  unfolding chosen stage
  chosen_stage =
      ⊎_elim
      (λ (z : c ≡ dark). rw (eq-eqb c dark z) refl)
      (λ (z : c ≡ dark → ⊥).
      rw (ne_eqb c dark z)
      (⊎_elim
      (λ (y : c ≤ f).
      let w = g.least z in
      let e : c ≡ f = omega arith in
      rw (le-leb c f y) (sym (g.sure z) ∙ ap (decide st) e))
      (λ (y : c ≤ f → ⊥). rw (lt-leb c f (omega arith)) refl)
      (says_else (says_le c f))))
      (says_else (says_eq c dark))

  module _ (p : ℕ) (h : suc p ≤ n) where
    -- a pair above the floor keeps or asks, one below it shows nothing
    pub stage_same : (c < suc p → st.mask (suc p) ≢ Hidden) → stage st c p ≡ stage st c (suc p)
    unfolding stage decide pair_step
    stage_same k =
        ⊎_elim
        (λ (z : c ≡ dark). rw (eq-eqb c dark z) refl)
        (λ (z : c ≡ dark → ⊥).
        rw (ne_eqb c dark z)
        (⊎_elim
        (λ (y : c ≤ p). rw (le-leb c p y, le-leb c (suc p) (omega arith)) (zero_keeps (st.mask (suc p)) (g.above z (suc p) (omega arith) h) (k (omega arith))))
        (λ (y : c ≤ p → ⊥).
        ⊎_elim
        (λ (x : c ≤ suc p).
        let e : c ≡ suc p = omega arith in
        rw (lt-leb c p (omega arith), le-leb c (suc p) x) (sym (g.sure z) ∙ ap (decide st) e))
        (λ (x : c ≤ suc p → ⊥). rw (lt-leb c p (omega arith), lt-leb c (suc p) (omega arith)) refl)
        (says_else (says_le c (suc p))))
        (says_else (says_le c p))))
        (says_else (says_eq c dark))
      where
        zero_keeps : (m : Mask) → m ≢ One → m ≢ Hidden → decide st p ≡ pair_step m (decide st p) (st.image (suc p))
        zero_keeps Zero a b = refl
        zero_keeps One a b = absurd (a refl)
        zero_keeps Hidden a b = absurd (b refl)

    pub stage_agrees : st.mask (suc p) ≡ Hidden → c < suc p → c ≢ dark → agree (stage st c p) (st.image (suc p)) ≡ stage st c (suc p)
    unfolding stage decide pair_step
    stage_agrees m y z =
        rw (ne_eqb c dark z, le-leb c p (omega arith), le-leb c (suc p) (omega arith)) (ap (λ (o : Mask). pair_step o (decide st p) (st.image (suc p))) (sym m))

  pub stage_end : stage st c n ≡ decide st n
  unfolding stage
  stage_end =
      ⊎_elim
      (λ (z : c ≡ dark). rw (eq-eqb c dark z) (sym (g.lost z)))
      (λ (z : c ≡ dark → ⊥). rw (ne_eqb c dark z, le-leb c n (g.most z)) refl)
      (says_else (says_eq c dark))
