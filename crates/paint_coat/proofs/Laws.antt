-- One law for each way out of the loops over pixels: its premises are what is known there.
-- Assumes nothing.
use Prim.Native.Nat.{ℕ, ◌+◌, ◌-◌, ◌*◌, ◌/◌, ◌≤◌, ◌<◌}
use native.Mathlib.Omega.{arith}
use native.Mathlib.Nat.{div-eq_of_lt-le, add-mul, one-mul, mul-le-mul_right}
use mathlib.Core.Path.{◌≡◌, refl, sym, ap, subst, ◌∙◌}
use mathlib.Core.List.{List}
use lib.ListN.{length}
use borrow.Author.Rules.{rules}
use Rattle.octets.specs.Octets.{put_at}
use Rattle.paint_words.specs.Words.{octets_of, four_from}
use Rattle.paint_coat.specs.Coat.{Coated, over, flat, four_in, samples_by}
use Rattle.paint_coat.proofs.Coats.{coated_none, coated_chain, coated_put, coated_as}

-- ---- pixel by pixel

pub record Coating (f : ℕ → List ℕ → List ℕ) (l : List ℕ) (a b : ℕ) (out : List ℕ) (x : ℕ) : Type 0 where
  pub from : a ≤ x
  pub upto : x ≤ b
  pub room : b * 4 ≤ length l
  pub long : length out ≡ length l
  pub done : Coated f l a x out

module _ (f : ℕ → List ℕ → List ℕ) (l : List ℕ) (a b : ℕ) where
  pub coat_begun : a ≤ b → b * 4 ≤ length l → Coating f l a b l a
  coat_begun h r = record { from = omega arith; upto = h; room = r; long = refl; done = coated_none f l a a (omega arith) }

  pub coat_more : (out new : List ℕ) (x v : ℕ) → new ≡ put_at out (x * 4) (octets_of v) → octets_of v ≡ f x (four_from out (x * 4)) → x < b → Coating f l a b out x
      → Coating f l a b new (x + 1)
  coat_more out new x v q e h c =
      let r = c.room in
      let n = c.long in
      let g = c.from in
      let p = coated_put f out new x v (omega arith) q e in
      record {
        from = omega arith;
        upto = omega arith;
        room = r;
        long = p.long ∙ n;
        done = coated_chain f l out new a x (x + 1) g (omega arith) c.done p;
      }

  pub coat_end : (out : List ℕ) (x : ℕ) → Coating f l a b out x → b ≤ x → Coated f l a b out
  coat_end out x c h = let u = c.upto in let z : x ≡ b = omega arith in subst (λ (i : ℕ). Coated f l a i out) z c.done

pub flat_is : (v : List ℕ) (x : ℕ) (o : List ℕ) → v ≡ over (flat v) x o
unfolding over flat
flat_is v x o = refl

pub ruleset coating = (rules, coat_begun, coat_more, coat_end, flat_is)

-- ---- sample by sample

module _ (each k : ℕ) (s : List ℕ) (t i : ℕ) where
  -- a sample's pixels
  sample_laid : (q v : ℕ) (l e : List ℕ) → octets_of v ≡ four_in each s (i + q * each) → Coated (over (flat (octets_of v))) l (t + q * k) (t + q * k + k) e
      → Coated (over (samples_by each k s t i)) l (t + q * k) (t + q * k + k) e
  unfolding over flat samples_by
  sample_laid q v l e h g =
      let m : (q + 1) * k ≡ q * k + k = add-mul q 1 k ∙ ap (λ (o : ℕ). q * k + o) (one-mul k) in
      coated_as (over (flat (octets_of v))) (over (samples_by each k s t i)) l e (t + q * k) (t + q * k + k)
      (λ x o y u.
      let d : (x - t) / k ≡ q = div-eq_of_lt-le k (omega arith) (omega arith) in
      h ∙ ap (λ (o : ℕ). four_in each s (i + o * each)) (sym d))
      g

  module _ (q : ℕ) (l out : List ℕ) (c : Coated (over (samples_by each k s t i)) l t (t + q * k) out) where
    pub samples_more : (v p : ℕ) (new : List ℕ) → p ≡ i + q * each → octets_of v ≡ four_in each s p → Coated (over (flat (octets_of v))) out (t + q * k) (t + q * k + k) new
        → Coated (over (samples_by each k s t i)) l t (t + (q + 1) * k) new
    samples_more v p new h e g =
        let b : (q + 1) * k ≡ q * k + k = add-mul q 1 k ∙ ap (λ (m : ℕ). q * k + m) (one-mul k) in
        let y : t + q * k + k ≡ t + (q + 1) * k = omega arith in
        subst (λ (m : ℕ). Coated (over (samples_by each k s t i)) l t m new) y
        (coated_chain (over (samples_by each k s t i)) l out new t (t + q * k) (t + q * k + k) (omega arith) (omega arith) c
        (sample_laid q v out new (e ∙ ap (λ (m : ℕ). four_in each s m) h) g))

    -- so many samples as there are
    pub samples_all : (n : ℕ) → q ≤ n → n ≤ q → Coated (over (samples_by each k s t i)) l t (t + n * k) out
    samples_all n f h = let z : q ≡ n = omega arith in subst (λ (m : ℕ). Coated (over (samples_by each k s t i)) l t (t + m * k) out) z c

-- where a load of one of m samples ends
pub load_fits : (i q m z size wide len : ℕ) → z ≡ size → q < m → size ≤ wide → i + m * size + (wide - size) ≤ len → i + q * z + wide ≤ len
load_fits i q m z size wide len e h a b =
    let f : (q + 1) * size ≤ m * size = mul-le-mul_right size (omega arith) in
    let g : (q + 1) * size ≡ q * size + size = add-mul q 1 size ∙ ap (λ (n : ℕ). q * size + n) (one-mul size) in
    rw e (omega arith)
