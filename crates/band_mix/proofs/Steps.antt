-- One law for each way out of the steps along a line and along two, and of the loops over them: its premises are what is known there.
-- Assumes nothing.
use Prim.Native.Nat.{ℕ, ◌+◌, ◌-◌, ◌*◌, ◌≤◌, ◌<◌}
use native.Mathlib.Omega.{arith}
use mathlib.Core.Path.{◌≡◌, refl, sym, ap, ap₂, subst, ◌∙◌}
use mathlib.Core.Bool.{Bool, true, false, ◌&&◌, cond}
use mathlib.Core.List.{List}
use lib.ListN.{get_or}
use lib.Dec.{eqb}
use borrow.Author.Rules.{rules}
use Rattle.laws.proofs.Says.{says_true, says_and}
use Rattle.paint_words.specs.Words.{four_from}
use Rattle.paint_coat.specs.Coat.{Coated, over}
use Rattle.paint_coat.proofs.Coats.{coated_as}
use Rattle.paint_blocks.specs.Blocks.{Alike}
use Rattle.band_mix.specs.Mix.{mixed_from, copied_from, line_from, chosen_from, Stepped, TwoLaid, TwoPart, TwoStepped, Source}
use Rattle.band_mix.proofs.Laws.{Lining, lining_begun, lining_part, lining_all, line_kept}
use Rattle.band_mix.proofs.Twos.{Pairing, pairing_begun, pairing_part, pairing_all, two_shift}

-- ---- a place chosen

-- what holds of both lines' places holds of the chosen one
either_place : (P : ℕ → Type 0) (z : Bool) (a b i : ℕ) → i ≡ cond z a b → P a → P b → P i
either_place P true a b i e p q = subst P (sym e) p
either_place P false a b i e p q = subst P (sym e) q

pub place_room : (m : List ℕ) (x a b i n t : ℕ) → Alike (get_or m x 0) m x (x + 16) → i ≡ cond (eqb (get_or m x 0) 0) a b → a + n ≤ t → b + n ≤ t → i + n ≤ t
place_room m x a b i n t g e h k = either_place (λ (j : ℕ). j + n ≤ t) (eqb (get_or m x 0) 0) a b i e h k

place_four : (z : Bool) (l : List ℕ) (a b i w : ℕ) → i ≡ cond z a b → four_from l ((i + w) * 4) ≡ cond z (four_from l ((a + w) * 4)) (four_from l ((b + w) * 4))
place_four true l a b i w e = ap (λ (j : ℕ). four_from l ((j + w) * 4)) e
place_four false l a b i w e = ap (λ (j : ℕ). four_from l ((j + w) * 4)) e

-- ---- steps along one line

pub stepped : (up : ℕ → List ℕ) (t x n : ℕ) (l : List ℕ) (r : ℕ) (e : List ℕ) → x < r → r ≤ n → Coated (over up) l (t + x) (t + r) e → Stepped up t x n l r e
stepped up t x n l r e h k c = record { more = h; most = k; done = c }

pub stepped_block : (l m e : List ℕ) (a b t x n i : ℕ) → x + 16 ≤ n → Alike (get_or m x 0) m x (x + 16) → i ≡ cond (eqb (get_or m x 0) 0) a b
    → Coated (over (copied_from l (i + x) (t + x))) l (t + x) (t + x + 16) e → Stepped (mixed_from l m a b t) t x n l (x + 16) e
unfolding over copied_from mixed_from
stepped_block l m e a b t x n i h g k c =
    let w : t + x + 16 ≡ t + (x + 16) = omega arith in
    record {
      more = omega arith;
      most = h;
      done = coated_as (over (copied_from l (i + x) (t + x))) (over (mixed_from l m a b t)) l e (t + x) (t + (x + 16))
          (λ y _ p q. let z : i + x + (y - (t + x)) ≡ i + (y - t) = omega arith in
          ap (λ (j : ℕ). four_from l (j * 4)) z ∙ place_four (eqb (get_or m x 0) 0) l a b i (y - t) k
          ∙ ap (λ (v : ℕ). cond (eqb v 0) (four_from l ((a + (y - t)) * 4)) (four_from l ((b + (y - t)) * 4))) (sym (g.there (y - t) (omega arith) (omega arith))))
          (subst (λ (j : ℕ). Coated (over (copied_from l (i + x) (t + x))) l (t + x) j e) w c);
    }

pub lining_step : (l out new m : List ℕ) (a b t n x r : ℕ) → a + n ≤ t → b + n ≤ t → Lining (mixed_from l m a b t) l t 0 n out x
    → Stepped (mixed_from out m a b t) t x n out r new → Lining (mixed_from l m a b t) l t 0 n new r
unfolding over mixed_from
lining_step l out new m a b t n x r ha hb c g =
    let h = g.more in
    let k = g.most in
    lining_part (mixed_from l m a b t) l t 0 n out new x r (omega arith) k
    (coated_as (over (mixed_from out m a b t)) (over (mixed_from l m a b t)) out new (t + x) (t + r)
    (λ y _ p q. ap₂ (λ (u v : List ℕ). cond (eqb (get_or m (y - t) 0) 0) u v)
    (line_kept (over (mixed_from l m a b t)) l out (t + 0) (t + x) (a + (y - t)) c.done (omega arith))
    (line_kept (over (mixed_from l m a b t)) l out (t + 0) (t + x) (b + (y - t)) c.done (omega arith))) g.done) c

pub ruleset steps = (rules, stepped, lining_begun, lining_all)

-- ---- steps along two lines

pub both_first : {P Q : Type 0} (u v : Bool) → (u ≡ true → P) → (v ≡ true → Q) → u && v ≡ true → P
both_first u v p q e = p ((says_and (says_true u) (says_true v)).told e).0

pub both_second : {P Q : Type 0} (u v : Bool) → (u ≡ true → P) → (v ≡ true → Q) → u && v ≡ true → Q
both_second u v p q e = q ((says_and (says_true u) (says_true v)).told e).1

pub place_source : (m : List ℕ) (a b i x n : ℕ) → Alike (get_or m x 0) m x (x + 16) → i ≡ cond (eqb (get_or m x 0) 0) a b → a + n ≤ b → x + 16 ≤ n
    → Source (a + x) (b + x) (i + x)
place_source m a b i x n g e h k =
    either_place (λ (j : ℕ). Source (a + x) (b + x) (j + x)) (eqb (get_or m x 0) 0) a b i e
    (record { from = omega arith; upto = omega arith; apart = λ u. omega arith }) (record { from = omega arith; upto = omega arith; apart = λ u. absurd (omega arith) })

pub two_stepped : (m k : List ℕ) (a b x n : ℕ) (l : List ℕ) (r : ℕ) (e : List ℕ) → x < r → r ≤ n → TwoPart m k a b x r l e → TwoStepped m k a b x n l r e
two_stepped m k a b x n l r e h u c = record { more = h; most = u; done = c }

block_line : (l m : List ℕ) (a b x i z : ℕ) → Alike (get_or m x 0) m x (x + 16) → i ≡ cond (eqb (get_or m x 0) 0) a b → z < 16 → line_from l (i + x) z ≡ chosen_from l m a b (x + z)
unfolding line_from chosen_from
block_line l m a b x i z g e h =
    let w : i + x + z ≡ i + (x + z) = omega arith in
    ap (λ (j : ℕ). four_from l (j * 4)) w ∙ place_four (eqb (get_or m x 0) 0) l a b i (x + z) e
    ∙ ap (λ (v : ℕ). cond (eqb v 0) (four_from l ((a + (x + z)) * 4)) (four_from l ((b + (x + z)) * 4))) (sym (g.there (x + z) (omega arith) (omega arith)))

pub two_block : (l m k e : List ℕ) (a b x n i j : ℕ) → x + 16 ≤ n → Alike (get_or m x 0) m x (x + 16) → Alike (get_or k x 0) k x (x + 16)
    → i ≡ cond (eqb (get_or m x 0) 0) a b → j ≡ cond (eqb (get_or k x 0) 0) a b → TwoLaid (line_from l (i + x)) (line_from l (j + x)) (a + x) (b + x) 0 16 l e
    → TwoStepped m k a b x n l (x + 16) e
two_block l m k e a b x n i j h gm gk ei ej c =
    record {
      more = omega arith;
      most = h;
      done = record {
        done = two_shift (line_from l (i + x)) (line_from l (j + x)) (chosen_from l m a b) (chosen_from l k a b) a b l e x 16 (x + 16) refl
            (λ z u. block_line l m a b x i z gm ei u) (λ z u. block_line l k a b x j z gk ej u) c;
      };
    }

pub pairing_step : (m k : List ℕ) (a b n : ℕ) (l out new : List ℕ) (x r : ℕ) → Pairing m k a b 0 n l out x → TwoStepped m k a b x n out r new → Pairing m k a b 0 n l new r
pairing_step m k a b n l out new x r c g = let h = g.more in pairing_part m k a b 0 n l out new x r (omega arith) g.most g.done c

pub ruleset two_steps = (rules, two_stepped, pairing_begun, pairing_all)
