-- Coats over parts of a row: none, one pixel, one part behind the other, and a coat told in other words.
-- Assumes nothing.
use Prim.Native.Nat.{ℕ, ◌+◌, ◌*◌, ◌/◌, ◌%◌, ◌≤◌, ◌<◌}
use native.Mathlib.Omega.{arith}
use mathlib.Core.Path.{◌≡◌, refl, sym, ap, ◌∙◌}
use mathlib.Core.Logic.{⊎_elim}
use mathlib.Core.List.{List, [], ◌∷◌}
use lib.ListN.{length, get_or}
use Rattle.laws.proofs.Says.{says_lt, says_else}
use Rattle.octets.specs.Octets.{put_at}
use Rattle.octets.proofs.Laws.{put_length, put_get_d, put_get_d_before, put_get_d_after}
use Rattle.paint_words.specs.Words.{octets_of, four_from}
use Rattle.paint_coat.specs.Coat.{Coated}

pub four_same : (l e : List ℕ) (o : ℕ) → ((i : ℕ) → o ≤ i → i < o + 4 → get_or e i 0 ≡ get_or l i 0) → four_from e o ≡ four_from l o
unfolding four_from
four_same l e o h =
    let a = h o (omega arith) (omega arith) in
    let b = h (o + 1) (omega arith) (omega arith) in
    let c = h (o + 2) (omega arith) (omega arith) in
    let d = h (o + 3) (omega arith) (omega arith) in
    cc

pub length_octets : (w : ℕ) → length (octets_of w) ≡ 4
unfolding octets_of
length_octets w = refl

four_put : (l : List ℕ) (o w : ℕ) → o + 4 ≤ length l → four_from (put_at l o (octets_of w)) o ≡ octets_of w
unfolding four_from octets_of
four_put l o w h =
    let v : List ℕ = w % 256 ∷ w / 256 % 256 ∷ w / 65536 % 256 ∷ w / 16777216 ∷ [] in
    let n : length v ≡ 4 = refl in
    let z : o + 0 ≡ o = omega arith in
    let a : get_or (put_at l o v) o 0 ≡ get_or v 0 0 = ap (λ (i : ℕ). get_or (put_at l o v) i 0) (sym z) ∙ put_get_d l o v 0 (omega arith) (omega arith) in
    let b = put_get_d l o v 1 (omega arith) (omega arith) in
    let c = put_get_d l o v 2 (omega arith) (omega arith) in
    let d = put_get_d l o v 3 (omega arith) (omega arith) in
    cc

module _ (f : ℕ → List ℕ → List ℕ) where
  pub coated_none : (l : List ℕ) (a b : ℕ) → b ≤ a → Coated f l a b l
  coated_none l a b h = record { long = refl; there = λ x p q. absurd (omega arith); before = λ i k. refl; behind = λ i k. refl }

  pub coated_chain : (l e g : List ℕ) (a i b : ℕ) → a ≤ i → i ≤ b → Coated f l a i e → Coated f e i b g → Coated f l a b g
  coated_chain l e g a i b p q c k =
      record {
        long = k.long ∙ c.long;
        there = λ x r s. ⊎_elim
            (λ (z : x < i). four_same e g (x * 4) (λ j u v. k.before j (omega arith)) ∙ c.there x r z)
            (λ (z : x < i → ⊥). k.there x (omega arith) s ∙ ap (f x) (four_same l e (x * 4) (λ j u v. c.behind j (omega arith))))
            (says_else (says_lt x i));
        before = λ j h. k.before j (omega arith) ∙ c.before j h;
        behind = λ j h. k.behind j h ∙ c.behind j (omega arith);
      }

  pub coated_put : (l new : List ℕ) (x v : ℕ) → x * 4 + 4 ≤ length l → new ≡ put_at l (x * 4) (octets_of v) → octets_of v ≡ f x (four_from l (x * 4)) → Coated f l x (x + 1) new
  coated_put l new x v h q e =
      let n = length_octets v in
      record {
        long = ap length q ∙ put_length l (x * 4) (octets_of v) (omega arith);
        there = λ y r s.
            let z : y ≡ x = omega arith in
            ap (λ (i : ℕ). four_from new (i * 4)) z ∙ ap (λ (m : List ℕ). four_from m (x * 4)) q ∙ four_put l (x * 4) v h ∙ e ∙ ap (λ (i : ℕ). f i (four_from l (i * 4))) (sym z);
        before = λ i k. ap (λ (m : List ℕ). get_or m i 0) q ∙ put_get_d_before l (x * 4) (octets_of v) i (omega arith) k;
        behind = λ i k. ap (λ (m : List ℕ). get_or m i 0) q ∙ put_get_d_after l (x * 4) (octets_of v) i (omega arith) (omega arith);
      }

pub coated_as : (f g : ℕ → List ℕ → List ℕ) (l e : List ℕ) (a b : ℕ) → ((x : ℕ) (o : List ℕ) → a ≤ x → x < b → f x o ≡ g x o) → Coated f l a b e → Coated g l a b e
coated_as f g l e a b h c =
    record { long = c.long; there = λ x p q. c.there x p q ∙ h x (four_from l (x * 4)) p q; before = c.before; behind = c.behind }
