-- One law for each way out of the functions that lay two layers under a mask: its premises are what is known there.
-- Assumes nothing.
use Prim.Native.Nat.{ℕ, ◌+◌, ◌-◌, ◌*◌, ◌/◌, ◌≤◌, ◌<◌}
use native.Mathlib.Omega.{arith}
use mathlib.Core.Path.{◌≡◌, refl, sym, ap, ap₂, subst, ◌∙◌}
use mathlib.Core.Logic.{⊎_elim}
use mathlib.Core.Bool.{Bool, true, false, cond}
use mathlib.Core.List.{List}
use lib.ListN.{length, get_or}
use lib.Dec.{eqb}
use borrow.Author.Tests.{eq-eqb, ne_eqb}
use Rattle.laws.proofs.Says.{says_lt, says_else}
use Rattle.octets.specs.Octets.{put_at}
use Rattle.paint_words.specs.Words.{octets_of, four_from, seen_from}
use Rattle.paint_blocks.specs.Blocks.{Alike}
use Rattle.paint_coat.specs.Coat.{Coated, over, flat, four_in, samples_by, chosen_by}
use Rattle.paint_coat.proofs.Coats.{four_same, coated_chain, coated_put, coated_as}
use Rattle.paint_coat.proofs.Laws.{Coating, coat_more}
use Rattle.paint_choice.specs.Choice.{bits_from}
use Rattle.paint_two.specs.Two.{shown, Stepped}

-- ---- samples of three octets, a pixel each

-- the sample of the x-th pixel
pub image_word : (d : List ℕ) (a i x v : ℕ) → octets_of v ≡ seen_from d (i + x * 3) → octets_of v ≡ samples_by 3 1 d a i (a + x)
unfolding samples_by four_in
image_word d a i x v e = let z : x * 3 ≡ (a + x - a) / 1 * 3 = omega arith in e ∙ ap (λ (m : ℕ). seen_from d (i + m)) z

-- the n-th pixel and its place are as good a start as the first
samples_moved : (d : List ℕ) (t i u j n p q : ℕ) (l e : List ℕ) → u ≡ t + n → j ≡ i + n * 3 → u ≤ p → Coated (over (samples_by 3 1 d u j)) l p q e → Coated (over (samples_by 3 1 d t i)) l p q e
unfolding over samples_by
samples_moved d t i u j n p q l e a b h g =
    coated_as (over (samples_by 3 1 d u j)) (over (samples_by 3 1 d t i)) l e p q
    (λ y o r s. let z : j + (y - u) / 1 * 3 ≡ i + (y - t) / 1 * 3 = omega arith in ap (four_in 3 d) z) g

-- ---- four pixels, and four times four

module _ (up : ℕ → List ℕ) where
  put_one : (l new : List ℕ) (x y v at : ℕ) → at ≡ x * 4 → y ≡ x + 1 → at + 4 ≤ length l → new ≡ put_at l at (octets_of v) → octets_of v ≡ up x → Coated (over up) l x y new
  unfolding over
  put_one l new x y v at z w h q e =
      subst (λ (m : ℕ). Coated (over up) l x m new) (sym w)
      (coated_put (over up) l new x v (omega arith) (subst (λ (m : ℕ). new ≡ put_at l m (octets_of v)) z q) e)

  four_put : (l h : List ℕ) (y a b c d : ℕ) → (y + 4) * 4 ≤ length l
      → h ≡ put_at (put_at (put_at (put_at l (y * 4) (octets_of a)) (y * 4 + 4) (octets_of b)) (y * 4 + 8) (octets_of c)) (y * 4 + 12) (octets_of d)
      → octets_of a ≡ up y → octets_of b ≡ up (y + 1) → octets_of c ≡ up (y + 2) → octets_of d ≡ up (y + 3) → Coated (over up) l y (y + 4) h
  four_put l h y a b c d room ph ua ub uc ud =
      let e = put_at l (y * 4) (octets_of a) in
      let f = put_at e (y * 4 + 4) (octets_of b) in
      let g = put_at f (y * 4 + 8) (octets_of c) in
      let k₁ = put_one l e y (y + 1) a (y * 4) refl refl (omega arith) refl ua in
      let n₁ = k₁.long in
      let k₂ = put_one e f (y + 1) (y + 2) b (y * 4 + 4) (omega arith) (omega arith) (omega arith) refl ub in
      let n₂ = k₂.long in
      let k₃ = put_one f g (y + 2) (y + 3) c (y * 4 + 8) (omega arith) (omega arith) (omega arith) refl uc in
      let n₃ = k₃.long in
      let k₄ = put_one g h (y + 3) (y + 4) d (y * 4 + 12) (omega arith) (omega arith) (omega arith) ph ud in
      coated_chain (over up) l g h y (y + 3) (y + 4) (omega arith) (omega arith)
      (coated_chain (over up) l f g y (y + 2) (y + 3) (omega arith) (omega arith)
      (coated_chain (over up) l e f y (y + 1) (y + 2) (omega arith) (omega arith) k₁ k₂) k₃) k₄

module _ (s : List ℕ) (t i : ℕ) where
  pub four_laid : (l h : List ℕ) (a b c d : ℕ) → (t + 4) * 4 ≤ length l
      → octets_of a ≡ seen_from s i → octets_of b ≡ seen_from s (i + 3) → octets_of c ≡ seen_from s (i + 6) → octets_of d ≡ seen_from s (i + 9)
      → h ≡ put_at (put_at (put_at (put_at l (t * 4) (octets_of a)) (t * 4 + 4) (octets_of b)) (t * 4 + 8) (octets_of c)) (t * 4 + 12) (octets_of d)
      → Coated (over (samples_by 3 1 s t i)) l t (t + 4) h
  four_laid l h a b c d room ea eb ec ed p =
      let y : t + 0 ≡ t = omega arith in
      let z : i ≡ i + 0 * 3 = omega arith in
      four_put (samples_by 3 1 s t i) l h t a b c d room p
      (subst (λ (m : ℕ). octets_of a ≡ samples_by 3 1 s t i m) y (image_word s t i 0 a (ea ∙ ap (seen_from s) z)))
      (image_word s t i 1 b eb) (image_word s t i 2 c ec) (image_word s t i 3 d ed)

  pub block_laid : (l e f g h : List ℕ)
      → Coated (over (samples_by 3 1 s t i)) l t (t + 4) e → Coated (over (samples_by 3 1 s (t + 4) (i + 12))) e (t + 4) (t + 4 + 4) f
      → Coated (over (samples_by 3 1 s (t + 8) (i + 24))) f (t + 8) (t + 8 + 4) g → Coated (over (samples_by 3 1 s (t + 12) (i + 36))) g (t + 12) (t + 12 + 4) h
      → Coated (over (samples_by 3 1 s t i)) l t (t + 16) h
  block_laid l e f g h k₁ k₂ k₃ k₄ =
      let up = samples_by 3 1 s t i in
      let z₂ : t + 4 + 4 ≡ t + 8 = omega arith in
      let z₃ : t + 8 + 4 ≡ t + 12 = omega arith in
      let z₄ : t + 12 + 4 ≡ t + 16 = omega arith in
      let j₂ = samples_moved s t i (t + 4) (i + 12) 4 (t + 4) (t + 8) e f refl refl (omega arith) (subst (λ (m : ℕ). Coated (over (samples_by 3 1 s (t + 4) (i + 12))) e (t + 4) m f) z₂ k₂) in
      let j₃ = samples_moved s t i (t + 8) (i + 24) 8 (t + 8) (t + 12) f g refl refl (omega arith) (subst (λ (m : ℕ). Coated (over (samples_by 3 1 s (t + 8) (i + 24))) f (t + 8) m g) z₃ k₃) in
      let j₄ = samples_moved s t i (t + 12) (i + 36) 12 (t + 12) (t + 16) g h refl refl (omega arith) (subst (λ (m : ℕ). Coated (over (samples_by 3 1 s (t + 12) (i + 36))) g (t + 12) m h) z₄ k₄) in
      coated_chain (over up) l g h t (t + 12) (t + 16) (omega arith) (omega arith)
      (coated_chain (over up) l f g t (t + 8) (t + 12) (omega arith) (omega arith)
      (coated_chain (over up) l e f t (t + 4) (t + 8) (omega arith) (omega arith) k₁ j₂) j₃) j₄

-- what lies before a coat is coated behind it
pub coated_before : (f : ℕ → List ℕ → List ℕ) (l e g : List ℕ) (a i b : ℕ) → a ≤ i → i ≤ b → Coated f l i b e → Coated f e a i g → Coated f l a b g
coated_before f l e g a i b p q c k =
    record {
      long = k.long ∙ c.long;
      there = λ x r s. ⊎_elim
          (λ (z : x < i). k.there x r z ∙ ap (f x) (four_same l e (x * 4) (λ j u v. c.before j (omega arith))))
          (λ (z : x < i → ⊥). four_same e g (x * 4) (λ j u v. k.behind j (omega arith)) ∙ c.there x (omega arith) s)
          (says_else (says_lt x i));
      before = λ j h. k.before j h ∙ c.before j (omega arith);
      behind = λ j h. k.behind j (omega arith) ∙ c.behind j h;
    }

-- ---- pixel by pixel

cond_octets : (z : Bool) (low up : ℕ) → octets_of (cond z low up) ≡ cond z (octets_of low) (octets_of up)
cond_octets true low up = refl
cond_octets false low up = refl

-- two layers, the mask's octets from the first pixel a on
abbrev both : List ℕ → ℕ → (ℕ → List ℕ) → (ℕ → List ℕ) → ℕ → List ℕ → List ℕ
both m a below above = chosen_by (bits_from m a 0) (over below) (over above)

pub chosen_word : (m : List ℕ) (a : ℕ) (below above : ℕ → List ℕ) (x low up v : ℕ) (o : List ℕ) → octets_of low ≡ below (a + x) → octets_of up ≡ above (a + x)
    → v ≡ cond (eqb (get_or m x 0) 0) low up → octets_of v ≡ both m a below above (a + x) o
unfolding chosen_by bits_from over
chosen_word m a below above x low up v o p q e =
    let z : x ≡ 0 + (a + x - a) = omega arith in
    ap octets_of e ∙ cond_octets (eqb (get_or m x 0) 0) low up
    ∙ ap (λ (n : ℕ). cond (eqb (get_or m n 0) 0) (octets_of low) (octets_of up)) z
    ∙ ap₂ (λ (n k : List ℕ). cond (eqb (get_or m (0 + (a + x - a)) 0) 0) n k) p q

module _ (f : ℕ → List ℕ → List ℕ) (l : List ℕ) (a p q : ℕ) where
  pub mix_more : (out new : List ℕ) (x v : ℕ) → new ≡ put_at out ((a + x) * 4) (octets_of v) → octets_of v ≡ f (a + x) (four_from out ((a + x) * 4)) → x < q → Coating f l (a + p) (a + q) out (a + x)
      → Coating f l (a + p) (a + q) new (a + (x + 1))
  mix_more out new x v e k h c =
      let z : a + x + 1 ≡ a + (x + 1) = omega arith in
      subst (Coating f l (a + p) (a + q) new) z (coat_more f l (a + p) (a + q) out new (a + x) v e k (omega arith) c)

-- ---- a step

module _ (f : ℕ → List ℕ → List ℕ) (a x n : ℕ) (l e : List ℕ) where
  step_block : 16 ≤ n - x → Coated f l (a + x) (a + x + 16) e → Stepped f a x n l (x + 16) e
  step_block h g =
      let z : a + x + 16 ≡ a + (x + 16) = omega arith in
      record { more = omega arith; most = omega arith; done = subst (λ (m : ℕ). Coated f l (a + x) m e) z g }

module _ (m : List ℕ) (a x n : ℕ) (below above : ℕ → List ℕ) (l e : List ℕ) (h : 16 ≤ n - x) where
  pub step_zeros : Alike 0 m x (x + 16) → Coated (over below) l (a + x) (a + x + 16) e → Stepped (both m a below above) a x n l (x + 16) e
  unfolding chosen_by bits_from
  step_zeros k g =
      step_block (both m a below above) a x n l e h
      (coated_as (over below) (both m a below above) l e (a + x) (a + x + 16)
      (λ y o p q.
      let z = k.there (0 + (y - a)) (omega arith) (omega arith) in
      sym (ap (λ (b : Bool). cond b (over below y o) (over above y o)) (eq-eqb (get_or m (0 + (y - a)) 0) 0 z))) g)

  pub step_ones : Alike 1 m x (x + 16) → Coated (over above) l (a + x) (a + x + 16) e → Stepped (both m a below above) a x n l (x + 16) e
  unfolding chosen_by bits_from
  step_ones k g =
      step_block (both m a below above) a x n l e h
      (coated_as (over above) (both m a below above) l e (a + x) (a + x + 16)
      (λ y o p q.
      let z = k.there (0 + (y - a)) (omega arith) (omega arith) in
      sym (ap (λ (b : Bool). cond b (over below y o) (over above y o)) (ne_eqb (get_or m (0 + (y - a)) 0) 0 (λ (w : get_or m (0 + (y - a)) 0 ≡ 0). omega arith)))) g)

-- ---- step by step

pub record Stepping (f : ℕ → List ℕ → List ℕ) (a n : ℕ) (l out : List ℕ) (x : ℕ) : Type 0 where
  pub upto : x ≤ n
  pub long : length out ≡ length l
  pub done : Coated f l a (a + x) out

module _ (f : ℕ → List ℕ → List ℕ) (a n : ℕ) (l out : List ℕ) (x : ℕ) (c : Stepping f a n l out x) where
  pub stepping_more : (r : ℕ) (new : List ℕ) → Stepped f a x n out r new → Stepping f a n l new r
  stepping_more r new g =
      let h = g.more in
      record {
        upto = g.most;
        long = g.done.long ∙ c.long;
        done = coated_chain f l out new a (a + x) (a + r) (omega arith) (omega arith) c.done g.done;
      }

-- ---- what a layer shows, told from the part's first pixel or from its own

pub image_at : (d : List ℕ) (i x v : ℕ) → octets_of v ≡ seen_from d (i + x * 3) → octets_of v ≡ samples_by 3 1 d 0 i x
unfolding samples_by four_in
image_at d i x v e = let z : x * 3 ≡ (x - 0) / 1 * 3 = omega arith in e ∙ ap (λ (m : ℕ). seen_from d (i + m)) z

pub flat_at : (w x : ℕ) → octets_of w ≡ flat (octets_of w) x
unfolding flat
flat_at w x = refl

module _ (l e : List ℕ) (t b x : ℕ) where
  pub image_laid : (d : List ℕ) (i : ℕ) → Coated (over (samples_by 3 1 d t (i + x * 3))) l t b e → Coated (over (shown (samples_by 3 1 d 0 i) x t)) l t b e
  unfolding over samples_by shown
  image_laid d i g =
      coated_as (over (samples_by 3 1 d t (i + x * 3))) (over (shown (samples_by 3 1 d 0 i) x t)) l e t b
      (λ y o r s. let z : i + x * 3 + (y - t) / 1 * 3 ≡ i + (x + (y - t) - 0) / 1 * 3 = omega arith in ap (four_in 3 d) z) g

  pub flat_laid : (v : List ℕ) → Coated (over (flat v)) l t b e → Coated (over (shown (flat v) x t)) l t b e
  unfolding over flat shown
  flat_laid v g = coated_as (over (flat v)) (over (shown (flat v) x t)) l e t b (λ y o r s. refl) g

module _ (f : ℕ → List ℕ) (a x : ℕ) where
  pub shown_word : (v : ℕ) → octets_of v ≡ f x → octets_of v ≡ shown f 0 a (a + x)
  unfolding shown
  shown_word v e = let z : x ≡ 0 + (a + x - a) = omega arith in e ∙ ap f z

  pub shown_moved : (l e : List ℕ) (b : ℕ) → Coated (over (shown f x (a + x))) l (a + x) b e → Coated (over (shown f 0 a)) l (a + x) b e
  unfolding over shown
  shown_moved l e b g =
      coated_as (over (shown f x (a + x))) (over (shown f 0 a)) l e (a + x) b
      (λ y o r s. let z : x + (y - (a + x)) ≡ 0 + (y - a) = omega arith in ap f z) g

pub image_shown : (d : List ℕ) (a i y : ℕ) → shown (samples_by 3 1 d 0 i) 0 a y ≡ samples_by 3 1 d a i y
unfolding shown samples_by
image_shown d a i y = let z : i + (0 + (y - a) - 0) / 1 * 3 ≡ i + (y - a) / 1 * 3 = omega arith in ap (four_in 3 d) z

pub flat_shown : (v : List ℕ) (a y : ℕ) → shown (flat v) 0 a y ≡ flat v y
unfolding shown flat
flat_shown v a y = refl

pub both_as : (m : List ℕ) (a : ℕ) (f g f' g' : ℕ → List ℕ) (l e : List ℕ) (p q : ℕ) → ((y : ℕ) → f y ≡ f' y) → ((y : ℕ) → g y ≡ g' y) → Coated (both m a f g) l p q e
    → Coated (both m a f' g') l p q e
unfolding chosen_by over
both_as m a f g f' g' l e p q h k c =
    coated_as (both m a f g) (both m a f' g') l e p q
    (λ y o r s. ap₂ (λ (u w : List ℕ). cond (eqb (bits_from m a 0 y) 0) u w) (h y) (k y)) c
