-- One law for each way out of the functions that look at blocks of a mask: its premises are what is known there.
-- Assumes nothing.
use Prim.Native.Nat.{ℕ, ◌+◌, ◌*◌, ◌/◌, ◌%◌, ◌<◌}
use native.Mathlib.Omega.{arith}
use mathlib.Core.Path.{◌≡◌, refl, sym, ap, subst, ◌∙◌}
use mathlib.Core.Logic.{⊎_elim}
use mathlib.Core.Bool.{true, ◌&&◌}
use mathlib.Core.List.{List, [], ◌∷◌}
use lib.ListN.{get_or}
use lib.Dec.{eqb}
use Rattle.laws.proofs.Says.{says_eq, says_lt, says_and, says_else}
use Rattle.paint_words.specs.Words.{octets_of, four_from}
use Rattle.paint_blocks.specs.Blocks.{Alike, Eight}

-- ---- octets that are alike

alike_join : (v : ℕ) (s : List ℕ) (p i q : ℕ) → Alike v s p i → Alike v s i q → Alike v s p q
alike_join v s p i q g h =
    record { there = λ k a b. ⊎_elim (λ (z : k < i). g.there k a z) (λ (z : k < i → ⊥). h.there k (omega arith) b) (says_else (says_lt k i)) }

alike_one : (v : ℕ) (s : List ℕ) (p q : ℕ) → q ≡ p + 1 → get_or s p 0 ≡ v → Alike v s p q
alike_one v s p q z h = record { there = λ k a b. let y : k ≡ p = omega arith in ap (λ (m : ℕ). get_or s m 0) y ∙ h }

-- four octets that are v, told by a number that has four times v
four_alike : (v w : ℕ) (s : List ℕ) (i q : ℕ) → q ≡ i + 4 → octets_of w ≡ v ∷ v ∷ v ∷ v ∷ [] → octets_of w ≡ four_from s i → Alike v s i q
unfolding four_from
four_alike v w s i q y f e =
    let z : ◌≡◌ {A = List ℕ} (get_or s i 0 ∷ get_or s (i + 1) 0 ∷ get_or s (i + 2) 0 ∷ get_or s (i + 3) 0 ∷ []) (v ∷ v ∷ v ∷ v ∷ []) = sym e ∙ f in
    let a : get_or s i 0 ≡ v = ap (λ (l : List ℕ). get_or l 0 0) z in
    let b : get_or s (i + 1) 0 ≡ v = ap (λ (l : List ℕ). get_or l 1 0) z in
    let c : get_or s (i + 2) 0 ≡ v = ap (λ (l : List ℕ). get_or l 2 0) z in
    let d : get_or s (i + 3) 0 ≡ v = ap (λ (l : List ℕ). get_or l 3 0) z in
    alike_join v s i (i + 1) q (alike_one v s i (i + 1) refl a)
    (alike_join v s (i + 1) (i + 2) q (alike_one v s (i + 1) (i + 2) (omega arith) b)
    (alike_join v s (i + 2) (i + 3) q (alike_one v s (i + 2) (i + 3) (omega arith) c) (alike_one v s (i + 3) q (omega arith) d)))

eight_alike : (v w : ℕ) (s : List ℕ) (i q r : ℕ) → q ≡ i + 8 → octets_of w ≡ v ∷ v ∷ v ∷ v ∷ [] → w < 4294967296 → Eight s i r → r ≡ w + w * 4294967296 → Alike v s i q
eight_alike v w s i q r y f h g z =
    let e = g.is in
    let k = g.small in
    let a : w ≡ g.low = omega arith in
    let b : w ≡ g.high = omega arith in
    alike_join v s i (i + 4) q (four_alike v w s i (i + 4) refl f (ap octets_of a ∙ g.first))
    (four_alike v w s (i + 4) q (omega arith) f (ap octets_of b ∙ g.second))

block_alike : (v w n a b : ℕ) (s : List ℕ) (i : ℕ) → octets_of w ≡ v ∷ v ∷ v ∷ v ∷ [] → w < 4294967296 → n ≡ w + w * 4294967296 → Eight s i a → Eight s (i + 8) b → eqb a n && eqb b n ≡ true
    → Alike v s i (i + 16)
block_alike v w n a b s i f h e p q z =
    let k = (says_and (says_eq a n) (says_eq b n)).told z in
    alike_join v s i (i + 8) (i + 16) (eight_alike v w s i (i + 8) a refl f h p (k.0 ∙ e))
    (eight_alike v w s (i + 8) (i + 16) b (omega arith) f h q (k.1 ∙ e))

pub block_zeros : (a b : ℕ) (s : List ℕ) (i : ℕ) → Eight s i a → Eight s (i + 8) b → eqb a 0 && eqb b 0 ≡ true → Alike 0 s i (i + 16)
unfolding octets_of
block_zeros a b s i p q z = block_alike 0 0 0 a b s i refl (omega arith) refl p q z

pub block_ones : (a b : ℕ) (s : List ℕ) (i : ℕ) → Eight s i a → Eight s (i + 8) b → eqb a 72340172838076673 && eqb b 72340172838076673 ≡ true → Alike 1 s i (i + 16)
unfolding octets_of
block_ones a b s i p q z = block_alike 1 16843009 72340172838076673 a b s i refl (omega arith) refl p q z

-- a product has four times the octet, and so has each half of eight
octets_of_product : (v : ℕ) → v < 256 → octets_of (v * 16843009) ≡ v ∷ v ∷ v ∷ v ∷ []
unfolding octets_of
octets_of_product v h =
    let a : v * 16843009 % 256 ≡ v = omega arith in
    let m : v * 16843009 / 256 ≡ v * 65793 = omega arith in
    let b : v * 65793 % 256 ≡ v = omega arith in
    let n : v * 16843009 / 65536 ≡ v * 257 = omega arith in
    let c : v * 257 % 256 ≡ v = omega arith in
    let d : v * 16843009 / 16777216 ≡ v = omega arith in
    cc

pub block_same : (q a b : ℕ) (s : List ℕ) (i : ℕ) → q ≡ get_or s i 0 → q < 256 → Eight s i a → Eight s (i + 8) b
    → eqb a (q * 72340172838076673) && eqb b (q * 72340172838076673) ≡ true → Alike (get_or s i 0) s i (i + 16)
block_same q a b s i e small f g z =
    let n : q * 72340172838076673 ≡ q * 16843009 + q * 16843009 * 4294967296 = omega arith in
    subst (λ (v : ℕ). Alike v s i (i + 16)) e
    (block_alike q (q * 16843009) (q * 72340172838076673) a b s i (octets_of_product q small) (omega arith) n f g z)
