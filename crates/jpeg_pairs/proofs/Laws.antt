-- One law for each way out of the functions: its premises are what is known there.
-- Assumes nothing.
use Prim.Native.Nat.{ℕ, zero, suc, ◌+◌, ◌-◌, ◌≤◌, ◌<◌}
use native.Mathlib.Omega.{arith}
use mathlib.Core.Path.{◌≡◌, sym, ap, ◌∙◌}
use mathlib.Core.Bool.{Bool, true, false, false≢true}
use mathlib.Core.Logic.{◌⊎◌, inl, inr, ◌≢◌, ⊎_elim}
use mathlib.Core.List.{List}
use lib.ListN.{length, get_or}
use Rattle.laws.proofs.Says.{Says, says_eq, says_le, says_and, says_or, says_not, says_else}
use Rattle.octets.proofs.Runs.{end_here}
use Rattle.jpeg_rules.specs.Grammar.{DataRun}
use Rattle.jpeg_rules.specs.Walk.{scan_of}
use Rattle.jpeg_rules.proofs.Scans.{plain_next, run_next}
use Rattle.jpeg_pairs.specs.Pairs.{codes, plain_pair}

-- ---- a pair that is data is passed, from its first octet to its second

abbrev DataCode : ℕ → Type 0
DataCode b = (b ≡ 0x00) ⊎ ((0xD0 ≤ b) × (b ≤ 0xD7))

says_plain : (a b : ℕ) → Says (plain_pair a b) (((a ≡ 0xFF → ⊥) ⊎ (b ≡ 0x00)) ⊎ ((0xD0 ≤ b) × (b ≤ 0xD7)))
says_plain a b = says_or (says_or (says_not (says_eq a 0xFF)) (says_eq b 0x00)) (says_and (says_le 0xD0 b) (says_le b 0xD7))

says_codes : (b : ℕ) → Says (codes b) (DataCode b → ⊥)
says_codes b = says_not (says_or (says_eq b 0x00) (says_and (says_le 0xD0 b) (says_le b 0xD7)))

module _ (s : List ℕ) (i : ℕ) (h : i + 1 < length s) where
  -- FF and a code of data
  data_next : get_or s i 0 ≡ 0xFF → DataCode (get_or s (i + 1) 0) → scan_of s i ≡ scan_of s (i + 1)
  data_next ff k =
      let z : i + 1 - (i + 1) ≡ 0 = omega arith in
      let n : get_or s (i + 1) 0 ≢ 0xFF =
      λ q. ⊎_elim (λ (e : get_or s (i + 1) 0 ≡ 0x00). omega arith) (λ (e : (0xD0 ≤ get_or s (i + 1) 0) × (get_or s (i + 1) 0 ≤ 0xD7)). omega arith) k in
      let d : DataRun (i + 1 - (i + 1)) (get_or s (i + 1) 0) =
      ⊎_elim (λ (e : get_or s (i + 1) 0 ≡ 0x00). inl (e, z)) (λ (e : (0xD0 ≤ get_or s (i + 1) 0) × (get_or s (i + 1) 0 ≤ 0xD7)). inr e) k in
      run_next s i (i + 1) ff (end_here 0xFF s (i + 1) h n) h d ∙ sym (plain_next s (i + 1) n)

  pub pair_next : plain_pair (get_or s i 0) (get_or s (i + 1) 0) ≡ true → scan_of s i ≡ scan_of s (i + 1)
  pair_next t =
      ⊎_elim
      (λ (ff : get_or s i 0 ≡ 0xFF).
      data_next ff
      (⊎_elim
      (λ (e : (get_or s i 0 ≡ 0xFF → ⊥) ⊎ (get_or s (i + 1) 0 ≡ 0x00)).
      ⊎_elim (λ (n : get_or s i 0 ≡ 0xFF → ⊥). absurd (n ff)) (λ (e : get_or s (i + 1) 0 ≡ 0x00). inl e) e)
      (λ (e : (0xD0 ≤ get_or s (i + 1) 0) × (get_or s (i + 1) 0 ≤ 0xD7)). inr e)
      ((says_plain (get_or s i 0) (get_or s (i + 1) 0)).told t)))
      (λ (n : get_or s i 0 ≢ 0xFF). plain_next s i n)
      (says_else (says_eq (get_or s i 0) 0xFF))

  pub code_next : get_or s i 0 ≡ 0xFF → codes (get_or s (i + 1) 0) ≡ false → scan_of s i ≡ scan_of s (i + 1)
  code_next ff c =
      ⊎_elim (λ (k : DataCode (get_or s (i + 1) 0)). data_next ff k)
      (λ (k : DataCode (get_or s (i + 1) 0) → ⊥). absurd (contrary ((says_codes (get_or s (i + 1) 0)).shown k) c))
      (says_else (says_or (says_eq (get_or s (i + 1) 0) 0x00) (says_and (says_le 0xD0 (get_or s (i + 1) 0)) (says_le (get_or s (i + 1) 0) 0xD7))))
    where
      contrary : {b : Bool} → b ≡ true → b ≡ false → ⊥
      contrary t f = false≢true (sym f ∙ t)

-- ---- all_plain

pub plain_by : (s : List ℕ) (i n : ℕ) → i + n < length s → ((j : ℕ) → j < n → plain_pair (get_or s (i + j) 0) (get_or s (i + j + 1) 0) ≡ true) → scan_of s i ≡ scan_of s (i + n)
plain_by s i zero h k = let z : i ≡ i + 0 = omega arith in ap (scan_of s) z
plain_by s i (suc n) h k =
    let z : i + n + 1 ≡ i + suc n = omega arith in
    plain_by s i n (omega arith) (λ j l. k j (omega arith)) ∙ pair_next s (i + n) (omega arith) (k n (omega arith)) ∙ ap (scan_of s) z

-- ---- near

pub record Looking (s : List ℕ) (from last i : ℕ) : Type 0 where
  pub after : from ≤ i
  pub end : last + 1 ≡ length s
  pub most : i ≤ last
  pub same : scan_of s from ≡ scan_of s i

module _ (s : List ℕ) (from : ℕ) where
  module _ (last i : ℕ) (c : Looking s from last i) where
    module _ (l : i < last) where
      pub look_plain : (get_or s i 0 ≡ 255 → ⊥) → Looking s from last (i + 1)
      look_plain n = let a = c.after in record { after = omega arith; end = c.end; most = omega arith; same = c.same ∙ plain_next s i n }

      module _ (ff : get_or s i 0 ≡ 255) {b : Bool} (q : b ≡ codes (get_or s (i + 1) 0)) where
        pub look_data : b ≡ false → Looking s from last (i + 1)
        look_data f =
            let e = c.end in
            let a = c.after in
            record { after = omega arith; end = e; most = omega arith; same = c.same ∙ code_next s i (omega arith) ff (sym q ∙ f) }

-- ---- by_blocks

pub record Leaping (s : List ℕ) (from i : ℕ) : Type 0 where
  pub after : from ≤ i
  pub inside : i < length s
  pub same : scan_of s from ≡ scan_of s i
