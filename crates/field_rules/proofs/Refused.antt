-- A refusal of a segment is Short or one that its table names, at a place within the list.
-- Assumes nothing.
use Prim.Native.Nat.{ℕ, ◌+◌, ◌-◌, ◌≤◌}
use native.Mathlib.Omega.{arith}
use mathlib.Core.Path.{◌≡◌, subst}
use mathlib.Core.List.{List, [], ◌∷◌, ◌++◌}
use lib.ListN.{length}
use lib.Dec.{ltb}
use borrow.Author.Tests.{ltb-false}
use Rattle.octets.specs.Octets.{stands_at}
use Rattle.laws.proofs.Cases.{cond_with, clash}
use Rattle.answers.specs.declared.Refusal.{Refusal}
use Rattle.answers.specs.declared.Refusal.TheVariants.{Short}
use Rattle.field_rules.specs.Field.{Res, ok, no, widths, numbers, Field, mark, val, again, fields}

-- each refusal that the table names has a property, at every place up to n
unfoldable pub Names : (Refusal → Type 0) → ℕ → List Field → Type 0
Names Q n [] = Unit {0}
Names Q n (mark m refusal ∷ table) = ((p : ℕ) → p ≤ n → Q (refusal p)) × Names Q n table
Names Q n (val ws good refusal ∷ table) = ((p : ℕ) → p ≤ n → Q (refusal p)) × Names Q n table
Names Q n (again back good refusal ∷ table) = ((p : ℕ) → p ≤ n → Q (refusal p)) × Names Q n table

module _ (Q : Refusal → Type 0) (s : List ℕ) (short : (p : ℕ) → p ≤ length s → Q (Short p)) (a : Refusal) where
  told : (p : ℕ) (b : Refusal) → Q b → ◌≡◌ {A = Res (List ℕ)} (no b) (no a) → Q a
  told p b q e = let z : b ≡ a = cc in subst Q z q

  pub fields_refused : (table : List Field) → Names Q (length s) table → (before : List ℕ) (at : ℕ) → at ≤ length s → fields table before s at ≡ no a → Q a
  unfolding fields Names
  fields_refused [] k before at h = λ e. clash cc
  fields_refused (mark m refusal ∷ table) k before at h =
      cond_with (λ x. x ≡ no a → Q a) (ltb (length s) (at + length m)) (λ t e. told at (Short at) (short at h) e) λ t.
      cond_with (λ x. x ≡ no a → Q a) (stands_at s at m)
      (λ u e. fields_refused table k.1 before (at + length m) (ltb-false (length s) (at + length m) t) e)
      (λ u e. told at (refusal at) (k.0 at h) e)
  fields_refused (val ws good refusal ∷ table) k before at h =
      cond_with (λ x. x ≡ no a → Q a) (ltb (length s) (at + widths ws)) (λ t e. told at (Short at) (short at h) e) λ t.
      cond_with (λ x. x ≡ no a → Q a) (good before (numbers ws s at))
      (λ u e. fields_refused table k.1 (before ++ numbers ws s at) (at + widths ws) (ltb-false (length s) (at + widths ws) t) e)
      (λ u e. told at (refusal at) (k.0 at h) e)
  fields_refused (again back good refusal ∷ table) k before at h =
      cond_with (λ x. x ≡ no a → Q a) (good before)
      (λ u e. fields_refused table k.1 before at h e)
      (λ u e. told at (refusal (at - back)) (k.0 (at - back) (omega arith)) e)

-- ---- where reading ends: after all fields

unfoldable pub rows_size : List Field → ℕ
unfolding widths
rows_size [] = 0
rows_size (mark m refusal ∷ table) = length m + rows_size table
rows_size (val ws good refusal ∷ table) = widths ws + rows_size table
rows_size (again back good refusal ∷ table) = rows_size table

pub fields_end : (table : List Field) (before out s : List ℕ) (at n : ℕ) → at ≤ length s → fields table before s at ≡ ok out n → (n ≡ at + rows_size table) × (n ≤ length s)
unfolding fields rows_size
fields_end [] before out s at n h = λ e. let z : at ≡ n = cc in (omega arith, omega arith)
fields_end (mark m refusal ∷ table) before out s at n h =
    cond_with (λ x. x ≡ ok out n → (n ≡ at + (length m + rows_size table)) × (n ≤ length s)) (ltb (length s) (at + length m)) (λ t e. clash cc) λ t.
    cond_with (λ x. x ≡ ok out n → (n ≡ at + (length m + rows_size table)) × (n ≤ length s)) (stands_at s at m)
    (λ u e. let k = fields_end table before out s (at + length m) n (ltb-false (length s) (at + length m) t) e in let z = k.0 in (omega arith, k.1))
    (λ u e. clash cc)
fields_end (val ws good refusal ∷ table) before out s at n h =
    cond_with (λ x. x ≡ ok out n → (n ≡ at + (widths ws + rows_size table)) × (n ≤ length s)) (ltb (length s) (at + widths ws)) (λ t e. clash cc) λ t.
    cond_with (λ x. x ≡ ok out n → (n ≡ at + (widths ws + rows_size table)) × (n ≤ length s)) (good before (numbers ws s at))
    (λ u e. let k = fields_end table (before ++ numbers ws s at) out s (at + widths ws) n (ltb-false (length s) (at + widths ws) t) e in let z = k.0 in (omega arith, k.1))
    (λ u e. clash cc)
fields_end (again back good refusal ∷ table) before out s at n h =
    cond_with (λ x. x ≡ ok out n → (n ≡ at + rows_size table) × (n ≤ length s)) (good before) (λ u e. fields_end table before out s at n h e) (λ u e. clash cc)
