-- One law for each way out of the functions that find coded data: its premises are what is known there.
-- Assumes nothing.
use Prim.Native.Nat.{ℕ, ◌+◌, ◌-◌, ◌/◌, ◌≤◌, ◌<◌}
use native.Mathlib.Omega.{arith}
use mathlib.Core.Path.{◌≡◌, refl, sym, ap, subst, ◌∙◌}
use mathlib.Core.Bool.{◌&&◌}
use mathlib.Core.List.{List}
use lib.ListN.{length, take, drop}
use lib.Dec.{leb}
use borrow.Author.Rules.{rules}
use denote.Ref.{Bor}
use Rattle.laws.proofs.Cases.{cond_with, clash}
use Rattle.laws.proofs.Says.{says_le, says_and}
use Rattle.sheet_rules.specs.declared.Extent.{Extent}
use Rattle.std.specs.Prelude.{Option, Some, Result, Ok, Err}
use Rattle.answers.specs.declared.Refusal.{Refusal}
use Rattle.sheet_rules.specs.declared.Counts.{Counts}
use Rattle.sheet_rules.specs.Record.{record_size}
use Rattle.sheet_rules.specs.Judge.{judge_of}
use Rattle.sheet_rules.specs.StripeTable.{find_stripe, find_layer}
use Rattle.data_rules.specs.declared.Source.{Source}
use Rattle.data_rules.specs.declared.Source.TheVariants.{Page, Pencil}
use Rattle.data_rules.specs.declared.Part.{Part}
use Rattle.data_rules.specs.Data.{octets_in, found_of, part_by, part_of, source_by, part_source, start_by, part_start}
use Rattle.data_rules.proofs.Handed.{lies_within}
use Rattle.sheet_table.specs.Steps.{Whole}
use Rattle.sheet_table.proofs.Found.{sheet_good, found_whole}
use Rattle.data_find.specs.Handed.{spot, PartAt, lent_from, HandsPart}

-- ---- the record of a layer that is found is there

layer_within : (s : List ℕ) (extent : Extent) (l : ℕ) (f : Option ℕ) (i : ℕ) → Whole s extent → f ≡ find_layer extent l → f ≡ Some i
    → (i < length s / record_size) × (i < 4294967296)
unfolding find_layer
layer_within s extent l f i w e z =
    cond_with (λ (x : Option ℕ). x ≡ Some i → (i < length s / record_size) × (i < 4294967296)) (leb 1 l && leb l extent.layers)
    (λ t q.
    let h = (says_and (says_le 1 l) (says_le l extent.layers)).told t in
    let a = h.0 in
    let b = h.1 in
    let p : extent.first + (l - 1) ≡ i = cc in
    let m = w.records in
    let n = w.few in
    (omega arith, omega arith))
    (λ t q. clash cc)
    (sym e ∙ z)

pub record_within : (s : List ℕ) (k l i : ℕ) {v : Result Counts ℕ} {n : Counts} {f : Option Extent} {extent : Extent} {h : Option ℕ} → v ≡ judge_of s → v ≡ Ok n
    → f ≡ find_stripe s k → f ≡ Some extent → h ≡ find_layer extent l → h ≡ Some i → (i < length s / record_size) × (i < 4294967296)
record_within s k l i {v} {n} {f} {extent} {h} j g e z q y = layer_within s extent l h i (found_whole s k f extent (sheet_good s v n j g) e z) q y

-- ---- the part itself

pub octets_made : (d : Bor (List ℕ)) (start n : ℕ) (r : Bor (List ℕ)) → r.now ≡ take (start + n - start) (drop start d.now) → r.ref_ptr ≡ spot d start → PartAt d start n r
octets_made d start n r e q =
    let z : start + n - start ≡ n = omega arith in record { octets = e ∙ ap (λ (j : ℕ). take j (drop start d.now)) z; place = q }

module _ (s : List ℕ) (page pencil : Bor (List ℕ)) (k l : ℕ) (f : Result Part Refusal) (e : f ≡ found_of s page.now pencil.now k l) where
  -- what is found, in words of what the call was answered
  hands_as : (g : Result Part Refusal) → f ≡ g → (r : Bor (List ℕ)) → r.now ≡ part_by page.now pencil.now g → r.ref_ptr ≡ spot (lent_from page pencil (source_by g)) (start_by g)
      → HandsPart s page pencil k l r
  unfolding part_of part_source part_start
  hands_as g z r o q =
      record {
        octets = o ∙ ap (part_by page.now pencil.now) (sym z ∙ e);
        place = q ∙ ap (λ (x : Result Part Refusal). spot (lent_from page pencil (source_by x)) (start_by x)) (sym z ∙ e);
      }

  pub part_none : (a : Refusal) (r : Bor (List ℕ)) → f ≡ Err a → PartAt page 0 0 r → HandsPart s page pencil k l r
  unfolding part_by source_by start_by lent_from
  part_none a r z w = hands_as (Err a) z r w.octets w.place

  module _ (p : Part) (z : f ≡ Ok p) where
    fits_as : (d : List ℕ) → octets_in page.now pencil.now p.source ≡ d → p.start + p.len ≤ length d
    fits_as d q = subst (λ (x : List ℕ). p.start + p.len ≤ length x) q (lies_within s page.now pencil.now k l p (sym e ∙ z))

    -- of the slice that holds it
    part_as : (x : Source) → p.source ≡ x → (r : Bor (List ℕ)) → PartAt (lent_from page pencil x) p.start p.len r → (lent_from page pencil x).now ≡ octets_in page.now pencil.now x
        → HandsPart s page pencil k l r
    unfolding part_by source_by start_by
    part_as x q r w v =
        hands_as (Ok p) z r
        (w.octets ∙ ap (λ (d : List ℕ). take p.len (drop p.start d)) (v ∙ ap (octets_in page.now pencil.now) (sym q)))
        (w.place ∙ ap (λ (y : Source). spot (lent_from page pencil y) p.start) (sym q))

    module _ (x : Source) (u : x ≡ p.source) where
      pub fits_page : x ≡ Page → p.start + p.len ≤ length page.now
      unfolding octets_in
      fits_page v = fits_as page.now (ap (octets_in page.now pencil.now) (sym u ∙ v))

      pub fits_pencil : x ≡ Pencil → p.start + p.len ≤ length pencil.now
      unfolding octets_in
      fits_pencil v = fits_as pencil.now (ap (octets_in page.now pencil.now) (sym u ∙ v))

      pub part_page : (r : Bor (List ℕ)) → x ≡ Page → PartAt page p.start p.len r → HandsPart s page pencil k l r
      unfolding octets_in lent_from
      part_page r v w = part_as Page (sym u ∙ v) r w refl

      pub part_pencil : (r : Bor (List ℕ)) → x ≡ Pencil → PartAt pencil p.start p.len r → HandsPart s page pencil k l r
      unfolding octets_in lent_from
      part_pencil r v w = part_as Pencil (sym u ∙ v) r w refl

pub ruleset handing = (rules, octets_made, part_none, fits_page, fits_pencil, part_page, part_pencil)
