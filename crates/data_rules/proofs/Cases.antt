-- The four ways in which a layer's data are found, or refused.
-- Assumes nothing.
use Prim.Native.Nat.{ℕ, ◌+◌, ◌-◌, ◌<◌}
use native.Mathlib.Omega.{arith}
use mathlib.Core.Path.{◌≡◌, refl, sym, ap, subst, ◌∙◌}
use mathlib.Core.Logic.{⊎_elim}
use mathlib.Core.Bool.{◌&&◌, false≢true}
use mathlib.Core.List.{List}
use lib.ListN.{length}
use lib.Dec.{leb, ltb}
use borrow.Author.Tests.{ltb-true, ltb-false}
use Rattle.sheet_rules.proofs.Cut.{record_nth, records_count}
use Rattle.laws.proofs.Cases.{cond_with}
use Rattle.laws.proofs.Says.{says_le, says_lt, says_and, says_else}
use Rattle.answers.specs.declared.Refusal.TheVariants.{BadSheet, BadLine, Short}
use Rattle.std.specs.Prelude.{Result, Ok, Err}
use Rattle.answers.specs.declared.Refusal.{Refusal}
use Rattle.data_rules.specs.declared.Part.{Part}
use Rattle.sheet_rules.specs.declared.Counts.{Counts}
use Rattle.sheet_rules.specs.Record.{records, nth}
use Rattle.sheet_rules.specs.Judge.{judge_of}
use Rattle.sheet_rules.specs.Sentences.{BadSheetAt}
use Rattle.sheet_rules.specs.StripeTable.{extent_of, find_stripe, find_layer}
use Rattle.sheet_rules.proofs.Theorems.{sheet_accepted, sheet_refused}
use Rattle.sheet_rules.proofs.Table.{stripe_found_lem, stripe_missing, layer_found_lem}
use Rattle.data_rules.specs.Data.{source_of, octets_in, part_in, record_found, layer_found, stripe_found, sheet_found, found_of}
use Rattle.data_rules.specs.Sentences.{LayerAt, Fits, Passes}
use Rattle.sheet_rules.specs.Sentences.{Accepted}
use Rattle.data_rules.proofs.Layer.{layer_first, layer_last, layer_stripe, passes_in, fits_in}

module _ (s page pencil : List ℕ) (k l : ℕ) where
  pub found_cases : (P : Result Part Refusal → Type 0)
      → ((i : ℕ) → BadSheetAt s i → P (Err (BadSheet i)))
      → (Accepted s → ((i : ℕ) → LayerAt (records s) k l i → ⊥) → P (Err BadLine))
      → (Accepted s → (i : ℕ) → LayerAt (records s) k l i → Passes page pencil l (nth (records s) i) → P (Err (Short i)))
      → (Accepted s → (i : ℕ) → LayerAt (records s) k l i → Fits page pencil l (nth (records s) i) → P (Ok (part_in l (nth (records s) i))))
      → P (found_of s page pencil k l)
  unfolding found_of sheet_found stripe_found layer_found record_found find_layer
  found_cases P sheet line short good = by (judge_of s) refl
    where
      of_record : Accepted s → (i : ℕ) → LayerAt (records s) k l i → P (record_found page pencil l i (nth (records s) i))
      of_record a i y =
          cond_with P (ltb (length (octets_in page pencil (source_of l))) ((nth (records s) i).start + (nth (records s) i).len))
          (λ t. short a i y (passes_in page pencil l (nth (records s) i) (ltb-true (length (octets_in page pencil (source_of l))) ((nth (records s) i).start + (nth (records s) i).len) t)))
          (λ t. good a i y (fits_in page pencil l (nth (records s) i) (ltb-false (length (octets_in page pencil (source_of l))) ((nth (records s) i).start + (nth (records s) i).len) t)))

      of_layer : (n m : ℕ) → judge_of s ≡ Ok (record { records = n; stripes = m }) → P (layer_found s page pencil l (find_layer (extent_of k (records s)) l))
      of_layer n m e =
          let a = (sheet_accepted s n m).0 e in
          cond_with (λ x. P (layer_found s page pencil l x)) (leb 1 l && leb l (extent_of k (records s)).layers)
          (λ t.
          let h = (says_and (says_le 1 l) (says_le l (extent_of k (records s)).layers)).told t in
          let f = layer_found_lem s n m e k l h.0 h.1 in
          let i : ℕ = (extent_of k (records s)).first + (l - 1) in
          let c = a.count in
          let b = f.3 in
          let w : i < length (records s) = omega arith in
          let u = records_count s in
          let q = record_nth s i (omega arith) in
          subst (λ x. P (record_found page pencil l i x)) q
          (of_record (a.sheet, a.whole) i
          (record { within = w; stripe = ap (λ x. x.stripe) q ∙ f.1; layer = ap (λ x. x.layer) q ∙ f.2 })))
          (λ t.
          line (a.sheet, a.whole)
          (λ i y.
          false≢true
          (sym t ∙ (says_and (says_le 1 l) (says_le l (extent_of k (records s)).layers)).shown (layer_first (records s) a.sheet k l i y, layer_last (records s) a.sheet k l i y))))

      of_stripe : (n m : ℕ) → judge_of s ≡ Ok (record { records = n; stripes = m }) → P (stripe_found s page pencil l (find_stripe s k))
      of_stripe n m e =
          let a = (sheet_accepted s n m).0 e in
          let c = a.stripes in
          ⊎_elim (λ (h : k < m). subst (λ x. P (stripe_found s page pencil l x)) (sym (stripe_found_lem s n m e k h)) (of_layer n m e))
          (λ (h : k < m → ⊥).
          subst (λ x. P (stripe_found s page pencil l x)) (sym (stripe_missing s n m e k (omega arith)))
          (line (a.sheet, a.whole) (λ i y. let b = layer_stripe (records s) a.sheet k l i y in omega arith)))
          (says_else (says_lt k m))

      by : (x : Result Counts ℕ) → judge_of s ≡ x → P (sheet_found s page pencil k l x)
      by (Ok c) e = of_stripe c.records c.stripes e
      by (Err i) e = sheet i ((sheet_refused s i).0 e)
