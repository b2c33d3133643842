-- The record of a layer of a stripe: where the stripe table has it, and nowhere else; and what holds its data.
-- Assumes nothing.
use Prim.Native.Nat.{ℕ, zero, suc, ◌+◌, ◌-◌, ◌≤◌, ◌<◌}
use native.Mathlib.Omega.{arith}
use mathlib.Core.Path.{◌≡◌, sym, ap, subst, ◌∙◌}
use mathlib.Core.Bool.{Bool, cond}
use mathlib.Core.Logic.{inl, inr, ⊎_elim}
use mathlib.Core.List.{List}
use lib.ListN.{length}
use borrow.Author.Tests.{le-leb, lt-leb}
use Rattle.laws.proofs.Says.{says_le, says_lt, says_else}
use Rattle.sheet_rules.specs.declared.Record.{Record}
use Rattle.sheet_rules.specs.Record.{nth}
use Rattle.sheet_rules.specs.Sentences.{Above, Opening, Sheet, stripe_count}
use Rattle.sheet_rules.specs.StripeTable.{extent_of}
use Rattle.sheet_rules.proofs.Among.{nth_among}
use Rattle.sheet_rules.proofs.Fold.{begun_holds, unbroken_begun}
use Rattle.sheet_rules.proofs.Extents.{Extents, extents_begin, extents_more}
use Rattle.sheet_rules.proofs.Table.{sheet_table}
use Rattle.data_rules.specs.declared.Source.TheVariants.{Page, Pencil}
use Rattle.data_rules.specs.Data.{source_of, octets_in}
use Rattle.data_rules.specs.Sentences.{LayerAt, Fits, Passes}

module _ (rs : List Record) (z : Sheet rs) where
  layer_least : (i : ℕ) → i < length rs → 1 ≤ (nth rs i).layer
  layer_least zero h = let f = (z.unbroken.first h).1 in omega arith
  layer_least (suc i) h =
      let e : i + 1 ≡ suc i = omega arith in
      subst (λ (j : ℕ). 1 ≤ (nth rs j).layer) e
      (⊎_elim (λ (a : Above (nth rs i) (nth rs (i + 1))). let b = a.1 in omega arith)
      (λ (a : Opening (nth rs i) (nth rs (i + 1))). let b = a.1 in omega arith)
      (z.unbroken.next i (omega arith)))

  layer_most : (i : ℕ) → i < length rs → (nth rs i).layer ≤ (extent_of (nth rs i).stripe rs).layers
  layer_most i h =
      let b = unbroken_begun rs z.unbroken in
      let k = begun_holds (λ ps st. Extents ps st.stripe st.layer) (λ ps st r g n p. extents_more ps st r g n p) rs b.0 extents_begin b.1 in
      k.1.within (nth rs i) (nth_among rs i h)

  module _ (k l i : ℕ) (y : LayerAt rs k l i) where
    pub layer_first : 1 ≤ l
    layer_first = let a = layer_least i y.within in let e = y.layer in omega arith

    pub layer_last : l ≤ (extent_of k rs).layers
    layer_last =
        let a = layer_most i y.within in
        let e = y.layer in
        let f : (extent_of (nth rs i).stripe rs).layers ≡ (extent_of k rs).layers = ap (λ (j : ℕ). (extent_of j rs).layers) y.stripe in
        omega arith

    pub layer_stripe : k < stripe_count rs
    layer_stripe =
        let a = layer_first in
        let b = layer_last in
        ⊎_elim (λ (h : k < stripe_count rs). h)
        (λ (h : k < stripe_count rs → ⊥). let n = (sheet_table rs z).none k (omega arith) in absurd (omega arith))
        (says_else (says_lt k (stripe_count rs)))

    pub layer_place : i ≡ (extent_of k rs).first + (l - 1)
    layer_place =
        let a = layer_first in
        let x = (sheet_table rs z).index i y.within in
        let e = y.layer in
        let f : (extent_of (nth rs i).stripe rs).first ≡ (extent_of k rs).first = ap (λ (j : ℕ). (extent_of j rs).first) y.stripe in
        omega arith

  -- a layer of a stripe has one record
  pub layer_once : (k l i j : ℕ) → LayerAt rs k l i → LayerAt rs k l j → i ≡ j
  layer_once k l i j y x = layer_place k l i y ∙ sym (layer_place k l j x)

-- ---- what holds its data

module _ (l : ℕ) where
  pub source_low : l ≤ 3 → source_of l ≡ Page
  unfolding source_of
  source_low h = ap (λ (b : Bool). cond b Page Pencil) (le-leb l 3 h)

  pub source_high : 3 < l → source_of l ≡ Pencil
  unfolding source_of
  source_high h = ap (λ (b : Bool). cond b Page Pencil) (lt-leb l 3 h)

module _ (page pencil : List ℕ) (l : ℕ) where
  pub octets_low : l ≤ 3 → octets_in page pencil (source_of l) ≡ page
  unfolding octets_in
  octets_low h = ap (octets_in page pencil) (source_low l h)

  pub octets_high : 3 < l → octets_in page pencil (source_of l) ≡ pencil
  unfolding octets_in
  octets_high h = ap (octets_in page pencil) (source_high l h)

  module _ (r : Record) where
    pub passes_in : length (octets_in page pencil (source_of l)) < r.start + r.len → Passes page pencil l r
    passes_in h =
        ⊎_elim (λ (a : l ≤ 3). let e = ap length (octets_low a) in inl (a, omega arith))
        (λ (a : l ≤ 3 → ⊥). let b : 3 < l = omega arith in let e = ap length (octets_high b) in inr (b, omega arith))
        (says_else (says_le l 3))

    pub fits_in : r.start + r.len ≤ length (octets_in page pencil (source_of l)) → Fits page pencil l r
    fits_in h =
        record {
          low = λ a. let e = ap length (octets_low a) in omega arith;
          high = λ a. let e = ap length (octets_high a) in omega arith;
        }

    pub passes_not : Passes page pencil l r → Fits page pencil l r → ⊥
    passes_not (inl p) f = let a = f.low p.0 in let b = p.1 in omega arith
    passes_not (inr p) f = let a = f.high p.0 in let b = p.1 in omega arith
