-- How far reading a segment looked: up to the place after its fields where it was read, and where it was refused, as far as its table says.
-- Assumes nothing.
use Prim.Native.Nat.{ℕ, ◌+◌, ◌-◌, ◌≤◌}
use native.Mathlib.Omega.{arith}
use mathlib.Core.Path.{◌≡◌, refl, subst}
use mathlib.Core.List.{List, [], ◌∷◌, ◌++◌}
use lib.ListN.{length}
use lib.Dec.{ltb}
use borrow.Author.Tests.{ltb-false}
use Rattle.octets.specs.Octets.{stands_at}
use Rattle.laws.proofs.Cases.{cond_both, clash}
use Rattle.answers.specs.declared.Refusal.{Refusal}
use Rattle.answers.specs.declared.Refusal.TheVariants.{Short}
use Rattle.field_rules.specs.Field.{Res, ok, no, widths, numbers, Field, mark, val, again, fields}
use Rattle.page_looks.proofs.Hangs.{reach, Whole, fields_hang}

module _ (out s : List ℕ) (n : ℕ) where
  pub reach_end : (table : List Field) (before : List ℕ) (at : ℕ) → fields table before s at ≡ ok out n → reach table before s at ≡ n
  unfolding fields reach
  reach_end [] before at = λ e. cc
  reach_end (mark m refusal ∷ table) before at =
      cond_both (λ x l. x ≡ ok out n → l ≡ n) (ltb (length s) (at + length m)) (λ t e. clash cc) λ t.
      cond_both (λ x l. x ≡ ok out n → l ≡ n) (stands_at s at m) (λ u e. reach_end table before (at + length m) e) (λ u e. clash cc)
  reach_end (val ws good refusal ∷ table) before at =
      cond_both (λ x l. x ≡ ok out n → l ≡ n) (ltb (length s) (at + widths ws)) (λ t e. clash cc) λ t.
      cond_both (λ x l. x ≡ ok out n → l ≡ n) (good before (numbers ws s at)) (λ u e. reach_end table (before ++ numbers ws s at) (at + widths ws) e) (λ u e. clash cc)
  reach_end (again back good refusal ∷ table) before at =
      cond_both (λ x l. x ≡ ok out n → l ≡ n) (good before) (λ u e. reach_end table before at e) (λ u e. clash cc)

-- a segment that begins with a mark is looked at beyond it, if it is not Short
pub reach_mark : (m : List ℕ) (refusal : ℕ → Refusal) (table : List Field) (before s : List ℕ) (at : ℕ) → Whole (fields (mark m refusal ∷ table) before s at)
    → at + length m ≤ reach (mark m refusal ∷ table) before s at
unfolding fields reach
reach_mark m refusal table before s at =
    cond_both (λ (x : Res (List ℕ)) l. Whole x → at + length m ≤ l) (ltb (length s) (at + length m)) (λ t w. absurd (w at refl)) λ t.
    cond_both (λ (x : Res (List ℕ)) l. Whole x → at + length m ≤ l) (stands_at s at m)
    (λ u w. (fields_hang table before s (at + length m) (ltb-false (length s) (at + length m) t) w).ahead) (λ u w. omega arith)

-- each refusal of a table that is read from a place on has a property, together with the end of its field
unfoldable pub Looks : (Refusal → ℕ → Type 0) → ℕ → List Field → Type 0
Looks Q at [] = Unit {0}
Looks Q at (mark m refusal ∷ table) = Q (refusal at) (at + length m) × Looks Q (at + length m) table
Looks Q at (val ws good refusal ∷ table) = Q (refusal at) (at + widths ws) × Looks Q (at + widths ws) table
Looks Q at (again back good refusal ∷ table) = Q (refusal (at - back)) at × Looks Q at table

module _ (Q : Refusal → ℕ → Type 0) (s : List ℕ) (a : Refusal) (whole : (p : ℕ) → a ≡ Short p → ⊥) where
  abbrev Known : Res (List ℕ) → ℕ → Type 0
  Known x look = x ≡ no a → Q a look

  cut : (p look : ℕ) → Known (no (Short p)) look
  cut p look e = absurd (whole p cc)

  told : (b : Refusal) (look : ℕ) → Q b look → Known (no b) look
  told b look q e = let z : b ≡ a = cc in subst (λ (c : Refusal). Q c look) z q

  pub fields_look : (table : List Field) (before : List ℕ) (at : ℕ) → Looks Q at table → fields table before s at ≡ no a → Q a (reach table before s at)
  unfolding fields reach Looks
  fields_look [] before at k = λ e. clash cc
  fields_look (mark m refusal ∷ table) before at k =
      cond_both Known (ltb (length s) (at + length m)) (λ t. cut at at) λ t.
      cond_both Known (stands_at s at m) (λ u. fields_look table before (at + length m) k.1) (λ u. told (refusal at) (at + length m) k.0)
  fields_look (val ws good refusal ∷ table) before at k =
      cond_both Known (ltb (length s) (at + widths ws)) (λ t. cut at at) λ t.
      cond_both Known (good before (numbers ws s at)) (λ u. fields_look table (before ++ numbers ws s at) (at + widths ws) k.1)
      (λ u. told (refusal at) (at + widths ws) k.0)
  fields_look (again back good refusal ∷ table) before at k =
      cond_both Known (good before) (λ u. fields_look table before at k.1) (λ u. told (refusal (at - back)) at k.0)
