-- One law for each way out of the functions that lay one line of two others: its premises are what is known there.
-- Assumes nothing.
use Prim.Native.Nat.{ℕ, ◌+◌, ◌-◌, ◌*◌, ◌≤◌, ◌<◌}
use native.Mathlib.Omega.{arith}
use mathlib.Core.Path.{◌≡◌, refl, sym, ap, ap₂, subst, ◌∙◌}
use mathlib.Core.Bool.{Bool, true, false, cond}
use mathlib.Core.List.{List}
use lib.ListN.{length, get_or}
use lib.Dec.{eqb}
use borrow.Author.Rules.{rules}
use Rattle.octets.specs.Octets.{put_at}
use Rattle.paint_words.specs.Words.{octets_of, four_from}
use Rattle.paint_coat.specs.Coat.{Coated, over}
use Rattle.paint_coat.proofs.Coats.{four_same, coated_none, coated_chain, coated_put, coated_as}
use Rattle.band_mix.specs.Mix.{mixed_from, copied_from}

pub cond_octets : (z : Bool) (low up : ℕ) → octets_of (cond z low up) ≡ cond z (octets_of low) (octets_of up)
cond_octets true low up = refl
cond_octets false low up = refl

-- ---- a line laid from the p-th of its pixels on

pub record Lining (up : ℕ → List ℕ) (l : List ℕ) (t p q : ℕ) (out : List ℕ) (x : ℕ) : Type 0 where
  pub from : p ≤ x
  pub upto : x ≤ q
  pub room : (t + q) * 4 ≤ length l
  pub long : length out ≡ length l
  pub done : Coated (over up) l (t + p) (t + x) out

module _ (up : ℕ → List ℕ) where
  pub put_one : (l new : List ℕ) (x v : ℕ) → x * 4 + 4 ≤ length l → new ≡ put_at l (x * 4) (octets_of v) → octets_of v ≡ up x → Coated (over up) l x (x + 1) new
  unfolding over
  put_one l new x v h q e = coated_put (over up) l new x v h q e

module _ (up : ℕ → List ℕ) (l : List ℕ) (t p q : ℕ) where
  pub lining_begun : p ≤ q → (t + q) * 4 ≤ length l → Lining up l t p q l p
  lining_begun h r = record { from = omega arith; upto = h; room = r; long = refl; done = coated_none (over up) l (t + p) (t + p) (omega arith) }

  pub lining_part : (out new : List ℕ) (x r : ℕ) → x ≤ r → r ≤ q → Coated (over up) out (t + x) (t + r) new → Lining up l t p q out x → Lining up l t p q new r
  lining_part out new x r h k g c =
      let f = c.from in
      record {
        from = omega arith;
        upto = k;
        room = c.room;
        long = g.long ∙ c.long;
        done = coated_chain (over up) l out new (t + p) (t + x) (t + r) (omega arith) (omega arith) c.done g;
      }

  pub lining_put : (out new : List ℕ) (x v : ℕ) → new ≡ put_at out ((t + x) * 4) (octets_of v) → octets_of v ≡ up (t + x) → x < q → Lining up l t p q out x
      → Lining up l t p q new (x + 1)
  lining_put out new x v e u h c =
      let r = c.room in
      let n = c.long in
      let z : t + x + 1 ≡ t + (x + 1) = omega arith in
      lining_part out new x (x + 1) (omega arith) (omega arith)
      (subst (λ (i : ℕ). Coated (over up) out (t + x) i new) z (put_one up out new (t + x) v (omega arith) e u)) c

  pub lining_end : (out : List ℕ) (x : ℕ) → Lining up l t p q out x → q ≤ x → Coated (over up) l (t + p) (t + q) out
  lining_end out x c h = let u = c.upto in let z : x ≡ q = omega arith in subst (λ (i : ℕ). Coated (over up) l (t + p) (t + i) out) z c.done

-- the whole line
pub lining_all : (up : ℕ → List ℕ) (l : List ℕ) (t q : ℕ) (out : List ℕ) (x : ℕ) → Lining up l t 0 q out x → q ≤ x → Coated (over up) l t (t + q) out
lining_all up l t q out x c h =
    let z : t + 0 ≡ t = omega arith in
    subst (λ (i : ℕ). Coated (over up) l i (t + q) out) z (lining_end up l t 0 q out x c h)

-- what lies before the line is as it was
pub line_kept : (f : ℕ → List ℕ → List ℕ) (l out : List ℕ) (a b i : ℕ) → Coated f l a b out → i < a → four_from out (i * 4) ≡ four_from l (i * 4)
line_kept f l out a b i c h = four_same l out (i * 4) (λ j u v. c.before j (omega arith))

-- ---- pixel by pixel

pub copied_word : (l out : List ℕ) (a t n x w : ℕ) → octets_of w ≡ four_from out ((a + x) * 4) → a + n ≤ t → x < n → Lining (copied_from l a t) l t 0 n out x
    → octets_of w ≡ copied_from l a t (t + x)
unfolding copied_from
copied_word l out a t n x w e h k c =
    let z : t + x - t ≡ x = omega arith in
    e ∙ line_kept _ l out _ _ (a + x) c.done (omega arith) ∙ ap (λ (i : ℕ). four_from l ((a + i) * 4)) (sym z)

pub mixed_word : (l out m : List ℕ) (a b t p q x low up w : ℕ) → octets_of low ≡ four_from out ((a + x) * 4) → octets_of up ≡ four_from out ((b + x) * 4)
    → w ≡ cond (eqb (get_or m x 0) 0) low up → a + q ≤ t → b + q ≤ t → x < q → Lining (mixed_from l m a b t) l t p q out x → octets_of w ≡ mixed_from l m a b t (t + x)
unfolding mixed_from
mixed_word l out m a b t p q x low up w ea eb e ha hb k c =
    let z : t + x - t ≡ x = omega arith in
    ap octets_of e ∙ cond_octets (eqb (get_or m x 0) 0) low up
    ∙ ap₂ (λ (u v : List ℕ). cond (eqb (get_or m x 0) 0) u v) (ea ∙ line_kept _ l out _ _ (a + x) c.done (omega arith)) (eb ∙ line_kept _ l out _ _ (b + x) c.done (omega arith))
    ∙ ap (λ (i : ℕ). cond (eqb (get_or m i 0) 0) (four_from l ((a + i) * 4)) (four_from l ((b + i) * 4))) (sym z)

pub ruleset linings = (rules, lining_begun, lining_end, lining_all)

-- ---- sixteen pixels of one line

module _ (up : ℕ → List ℕ) where
  pub four_put : (l e : List ℕ) (y a b c d : ℕ) → (y + 4) * 4 ≤ length l
      → e ≡ put_at (put_at (put_at (put_at l (y * 4) (octets_of a)) (y * 4 + 4) (octets_of b)) (y * 4 + 8) (octets_of c)) (y * 4 + 12) (octets_of d)
      → octets_of a ≡ up y → octets_of b ≡ up (y + 1) → octets_of c ≡ up (y + 2) → octets_of d ≡ up (y + 3) → Coated (over up) l y (y + 4) e
  four_put l e y a b c d room pe ua ub uc ud =
      let l₁ : List ℕ = put_at l (y * 4) (octets_of a) in
      let l₂ : List ℕ = put_at l₁ (y * 4 + 4) (octets_of b) in
      let l₃ : List ℕ = put_at l₂ (y * 4 + 8) (octets_of c) in
      let p₂ : y * 4 + 4 ≡ (y + 1) * 4 = omega arith in
      let p₃ : y * 4 + 8 ≡ (y + 2) * 4 = omega arith in
      let p₄ : y * 4 + 12 ≡ (y + 3) * 4 = omega arith in
      let k₁ = put_one up l l₁ y a (omega arith) refl ua in
      let n₁ = k₁.long in
      let k₂ = put_one up l₁ l₂ (y + 1) b (omega arith) (ap (λ (i : ℕ). put_at l₁ i (octets_of b)) p₂) ub in
      let n₂ = k₂.long in
      let k₃ = put_one up l₂ l₃ (y + 2) c (omega arith) (ap (λ (i : ℕ). put_at l₂ i (octets_of c)) p₃) uc in
      let n₃ = k₃.long in
      let k₄ = put_one up l₃ e (y + 3) d (omega arith) (pe ∙ ap (λ (i : ℕ). put_at l₃ i (octets_of d)) p₄) ud in
      let z₁ : y + 1 + 1 ≡ y + 2 = omega arith in
      let z₂ : y + 2 + 1 ≡ y + 3 = omega arith in
      let z₃ : y + 3 + 1 ≡ y + 4 = omega arith in
      coated_chain (over up) l l₃ e y (y + 3) (y + 4) (omega arith) (omega arith)
      (coated_chain (over up) l l₂ l₃ y (y + 2) (y + 3) (omega arith) (omega arith)
      (coated_chain (over up) l l₁ l₂ y (y + 1) (y + 2) (omega arith) (omega arith) k₁
      (subst (λ (m : ℕ). Coated (over up) l₁ (y + 1) m l₂) z₁ k₂))
      (subst (λ (m : ℕ). Coated (over up) l₂ (y + 2) m l₃) z₂ k₃))
      (subst (λ (m : ℕ). Coated (over up) l₃ (y + 3) m e) z₃ k₄)

copied_is : (l : List ℕ) (i t x p w : ℕ) → p ≡ (i + (x - t)) * 4 → octets_of w ≡ four_from l p → octets_of w ≡ copied_from l i t x
unfolding copied_from
copied_is l i t x p w z e = e ∙ ap (four_from l) z

pub four_copied : (s l e : List ℕ) (t i a b c d : ℕ) → (t + 4) * 4 ≤ length l
    → octets_of a ≡ four_from s (i * 4) → octets_of b ≡ four_from s (i * 4 + 4) → octets_of c ≡ four_from s (i * 4 + 8) → octets_of d ≡ four_from s (i * 4 + 12)
    → e ≡ put_at (put_at (put_at (put_at l (t * 4) (octets_of a)) (t * 4 + 4) (octets_of b)) (t * 4 + 8) (octets_of c)) (t * 4 + 12) (octets_of d)
    → Coated (over (copied_from s i t)) l t (t + 4) e
four_copied s l e t i a b c d room ea eb ec ed pe =
    four_put (copied_from s i t) l e t a b c d room pe (copied_is s i t t (i * 4) a (omega arith) ea) (copied_is s i t (t + 1) (i * 4 + 4) b (omega arith) eb)
    (copied_is s i t (t + 2) (i * 4 + 8) c (omega arith) ec) (copied_is s i t (t + 3) (i * 4 + 12) d (omega arith) ed)

-- another four, of a line that ends before the place where all began
copied_more : (l o e : List ℕ) (t i s r : ℕ) → i + r ≤ t → s ≤ r → Coated (over (copied_from l i t)) l t (t + s) o → Coated (over (copied_from o (i + s) (t + s))) o (t + s) (t + r) e
    → Coated (over (copied_from l i t)) l t (t + r) e
unfolding over copied_from
copied_more l o e t i s r h k c g =
    coated_chain (over (copied_from l i t)) l o e t (t + s) (t + r) (omega arith) (omega arith) c
    (coated_as (over (copied_from o (i + s) (t + s))) (over (copied_from l i t)) o e (t + s) (t + r)
    (λ x _ p q. let z : i + s + (x - (t + s)) ≡ i + (x - t) = omega arith in
    ap (λ (j : ℕ). four_from o (j * 4)) z ∙ line_kept (over (copied_from l i t)) l o t (t + s) (i + (x - t)) c (omega arith)) g)

pub block_copied : (l o₁ o₂ o₃ e : List ℕ) (t i : ℕ) → i + 16 ≤ t → Coated (over (copied_from l i t)) l t (t + 4) o₁
    → Coated (over (copied_from o₁ (i + 4) (t + 4))) o₁ (t + 4) (t + 4 + 4) o₂ → Coated (over (copied_from o₂ (i + 8) (t + 8))) o₂ (t + 8) (t + 8 + 4) o₃
    → Coated (over (copied_from o₃ (i + 12) (t + 12))) o₃ (t + 12) (t + 12 + 4) e → Coated (over (copied_from l i t)) l t (t + 16) e
block_copied l o₁ o₂ o₃ e t i h c₁ c₂ c₃ c₄ =
    let z₂ : t + 4 + 4 ≡ t + 8 = omega arith in
    let z₃ : t + 8 + 4 ≡ t + 12 = omega arith in
    let z₄ : t + 12 + 4 ≡ t + 16 = omega arith in
    copied_more l o₃ e t i 12 16 (omega arith) (omega arith)
    (copied_more l o₂ o₃ t i 8 12 (omega arith) (omega arith)
    (copied_more l o₁ o₂ t i 4 8 (omega arith) (omega arith) c₁ (subst (λ (j : ℕ). Coated (over (copied_from o₁ (i + 4) (t + 4))) o₁ (t + 4) j o₂) z₂ c₂))
    (subst (λ (j : ℕ). Coated (over (copied_from o₂ (i + 8) (t + 8))) o₂ (t + 8) j o₃) z₃ c₃))
    (subst (λ (j : ℕ). Coated (over (copied_from o₃ (i + 12) (t + 12))) o₃ (t + 12) j e) z₄ c₄)
