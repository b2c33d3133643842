-- Octets that are there, or not, and octets that are alike: one law for each way out of the functions that look for them.
-- Assumes nothing.
use Prim.Native.Nat.{ℕ, ◌+◌, ◌-◌, ◌≤◌, ◌<◌}
use native.Mathlib.Omega.{arith}
use mathlib.Core.Path.{◌≡◌, sym, ap, subst, ◌∙◌}
use mathlib.Core.Logic.{⊎_elim}
use mathlib.Core.Bool.{Bool, true, false, ◌&&◌, false≢true}
use mathlib.Core.List.{List, [], ◌∷◌}
use lib.ListN.{length, get_or, take, drop, length-drop}
use lib.Seq.{get_or-take, get_or-drop, length-take-le}
use lib.Dec.{eqb}
use borrow.Author.Rules.{rules}
use Rattle.std.specs.List.{IsAnyAnswer, AllWithin}
use Rattle.laws.proofs.Says.{says_eq, says_and, says_lt, says_else}
use Rattle.paint_words.specs.Words.{octets_of, four_from}
use Rattle.paint_show.specs.Show.{Alike, Absent, Runs}

-- ---- an octet that is not there

-- what the library's search answers of a part
pub absent_told : (v p q : ℕ) (s : List ℕ) (r : Bool) → p ≤ q → q ≤ length s → IsAnyAnswer (λ (y : ℕ) (b : Bool). eqb y v ≡ b) (take (q - p) (drop p s)) r → r ≡ false
    → Absent v s p q
absent_told v p q s r h k a e =
    let n = length-drop p s in
    let l : length (take (q - p) (drop p s)) ≡ q - p = length-take-le (q - p) (drop p s) (omega arith) in
    let t : AllWithin (λ (y : ℕ). eqb y v ≡ false) (take (q - p) (drop p s)) 0 (length (take (q - p) (drop p s))) =
    subst (λ (z : Bool). IsAnyAnswer (λ (y : ℕ) (b : Bool). eqb y v ≡ b) (take (q - p) (drop p s)) z) e a in
    record {
      none = λ i x y z.
          let o : eqb (get_or (take (q - p) (drop p s)) (i - p) 0) v ≡ false = t (i - p) 0 (omega arith) (omega arith) in
          let w : p + (i - p) ≡ i = omega arith in
          let g : get_or (take (q - p) (drop p s)) (i - p) 0 ≡ get_or s i 0 =
          get_or-take (q - p) (drop p s) (i - p) 0 (omega arith) ∙ get_or-drop p s (i - p) 0 ∙ ap (λ (m : ℕ). get_or s m 0) w in
          false≢true (sym o ∙ (says_eq (get_or (take (q - p) (drop p s)) (i - p) 0) v).shown (g ∙ z));
    }

-- ---- octets that are alike

alike_none : (v : ℕ) (s : List ℕ) (p q : ℕ) → q ≤ p → Alike v s p q
alike_none v s p q h = record { there = λ i a b. absurd (omega arith) }

alike_join : (v : ℕ) (s : List ℕ) (p i q : ℕ) → Alike v s p i → Alike v s i q → Alike v s p q
alike_join v s p i q g h =
    record { there = λ k a b. ⊎_elim (λ (z : k < i). g.there k a z) (λ (z : k < i → ⊥). h.there k (omega arith) b) (says_else (says_lt k i)) }

alike_more : (v : ℕ) (s : List ℕ) (p i : ℕ) → get_or s i 0 ≡ v → Alike v s p i → Alike v s p (i + 1)
alike_more v s p i h g =
    alike_join v s p i (i + 1) g (record { there = λ k a b. let y : k ≡ i = omega arith in ap (λ (m : ℕ). get_or s m 0) y ∙ h })

four_alike : (v four r : ℕ) (s : List ℕ) (i : ℕ) → octets_of four ≡ v ∷ v ∷ v ∷ v ∷ [] → octets_of r ≡ four_from s i → r ≡ four → Alike v s i (i + 4)
unfolding four_from
four_alike v four r s i f e z =
    let w : ◌≡◌ {A = List ℕ} (get_or s i 0 ∷ get_or s (i + 1) 0 ∷ get_or s (i + 2) 0 ∷ get_or s (i + 3) 0 ∷ []) (v ∷ v ∷ v ∷ v ∷ []) = sym e ∙ ap octets_of z ∙ f in
    let a : get_or s i 0 ≡ v = ap (λ (l : List ℕ). get_or l 0 0) w in
    let b : get_or s (i + 1) 0 ≡ v = ap (λ (l : List ℕ). get_or l 1 0) w in
    let c : get_or s (i + 2) 0 ≡ v = ap (λ (l : List ℕ). get_or l 2 0) w in
    let d : get_or s (i + 3) 0 ≡ v = ap (λ (l : List ℕ). get_or l 3 0) w in
    let p : i + 1 + 1 ≡ i + 2 = omega arith in
    let q : i + 2 + 1 ≡ i + 3 = omega arith in
    let o : i + 3 + 1 ≡ i + 4 = omega arith in
    let k₁ = alike_more v s i i a (alike_none v s i i (omega arith)) in
    let k₂ = subst (Alike v s i) p (alike_more v s i (i + 1) b k₁) in
    let k₃ = subst (Alike v s i) q (alike_more v s i (i + 2) c k₂) in
    subst (Alike v s i) o (alike_more v s i (i + 3) d k₃)

pub all_alike : (v four a b c e : ℕ) (s : List ℕ) (i : ℕ) → octets_of four ≡ v ∷ v ∷ v ∷ v ∷ [] → octets_of a ≡ four_from s i → octets_of b ≡ four_from s (i + 4) → octets_of c ≡ four_from s (i + 8)
    → octets_of e ≡ four_from s (i + 12) → eqb a four && eqb b four && eqb c four && eqb e four ≡ true → Alike v s i (i + 16)
all_alike v four a b c e s i f p q r t z =
    let h = (says_and (says_and (says_and (says_eq a four) (says_eq b four)) (says_eq c four)) (says_eq e four)).told z in
    let j : i + 4 + 4 ≡ i + 8 = omega arith in
    let k : i + 8 + 4 ≡ i + 12 = omega arith in
    let l : i + 12 + 4 ≡ i + 16 = omega arith in
    alike_join v s i (i + 12) (i + 16)
    (alike_join v s i (i + 8) (i + 12)
    (alike_join v s i (i + 4) (i + 8) (four_alike v four a s i f p h.0.0.0) (subst (Alike v s (i + 4)) j (four_alike v four b s (i + 4) f q h.0.0.1)))
    (subst (Alike v s (i + 8)) k (four_alike v four c s (i + 8) f r h.0.1)))
    (subst (Alike v s (i + 12)) l (four_alike v four e s (i + 12) f t h.1))

pub ruleset alikes = (rules, all_alike)

module _ (v : ℕ) (s : List ℕ) (p q : ℕ) where
  pub run_begun : p ≤ q → Runs v s p q p
  run_begun h = record { from = omega arith; upto = h; alike = alike_none v s p p (omega arith) }

  pub run_more : (i : ℕ) → Runs v s p q i → i < q → get_or s i 0 ≡ v → Runs v s p q (i + 1)
  run_more i c h e = let a = c.from in record { from = omega arith; upto = omega arith; alike = alike_more v s p i e c.alike }

  pub run_block : (i : ℕ) (z : Bool) → Runs v s p q i → 16 ≤ q - i → i < q → (z ≡ true → Alike v s i (i + 16)) → z ≡ true → Runs v s p q (i + 16)
  run_block i z c h k g e = let a = c.from in let b = c.upto in record { from = omega arith; upto = omega arith; alike = alike_join v s p i (i + 16) c.alike (g e) }

  pub run_rest : (i j r : ℕ) → Runs v s p q i → j ≤ q → Runs v s i j r → Runs v s p q r
  run_rest i j r c h g =
      let a = c.from in
      let b = g.from in
      let k = g.upto in
      record { from = omega arith; upto = omega arith; alike = alike_join v s p i r c.alike g.alike }

pub ruleset running = (rules, run_begun, run_more, run_block, run_rest)
