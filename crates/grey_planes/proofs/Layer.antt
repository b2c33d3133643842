-- A layer of a stripe, and the sheet with octet 17 of its record cleared.
-- Assumes nothing.
use Prim.Native.Nat.{ℕ, ◌+◌, ◌-◌, ◌/◌, ◌≤◌, ◌<◌}
use native.Mathlib.Omega.{arith}
use mathlib.Core.Path.{◌≡◌, refl, ap, subst, ◌∙◌}
use mathlib.Core.Logic.{◌≢◌, ⊎_elim}
use mathlib.Core.List.{List}
use lib.ListN.{length}
use Rattle.sheet_rules.specs.declared.Extent.{Extent}
use Rattle.sheet_rules.specs.declared.Record.{Record}
use Rattle.std.specs.Prelude.{Ok}
use Rattle.sheet_rules.specs.Record.{record_size, record_at, records, marked}
use Rattle.sheet_rules.specs.Judge.{judge_of}
use Rattle.sheet_rules.specs.Sentences.{Among, Accepted, stripe_count}
use Rattle.sheet_rules.specs.StripeTable.{extent_of, layer_record}
use Rattle.sheet_rules.proofs.Among.{nth_among}
use Rattle.sheet_rules.proofs.Cut.{records_count, record_nth}
use Rattle.sheet_rules.proofs.Table.{layer_found_lem}
use Rattle.sheet_rules.proofs.Theorems.{sheet_accepted}
use Rattle.grey_planes.specs.Spread.{Clears, colour_sheet}
use Rattle.grey_planes.proofs.Sheets.{clears_extent, record_other, record_cleared, cleared_clears}

module _ (s : List ℕ) (k : ℕ) (ok : Accepted s) where
  abbrev extent : Extent
  extent = extent_of k (records s)

  judged : judge_of s ≡ Ok (record { records = length (records s); stripes = stripe_count (records s) })
  judged = (sheet_accepted s _ _).1 (record { sheet = ok.0; whole = ok.1; count = refl; stripes = refl })

  module _ (l : ℕ) (least : 1 ≤ l) (most : l ≤ extent.layers) where
    pub layer_is : (layer_record s extent l).layer ≡ l
    unfolding layer_record
    layer_is = (layer_found_lem s _ _ judged k l least most).2

    place : extent.first + (l - 1) < length s / record_size
    place =
        let f = (layer_found_lem s _ _ judged k l least most).3 in
        let n = records_count s in
        omega arith

    pub layer_among : Among (layer_record s extent l) (records s)
    unfolding layer_record
    layer_among =
        let i : ℕ = extent.first + (l - 1) in
        subst (λ (x : Record). Among x (records s)) (record_nth s i place) (nth_among (records s) i (let n = records_count s in let p = place in omega arith))

    abbrev s' : List ℕ
    s' = colour_sheet s k l

    abbrev extent' : Extent
    extent' = extent_of k (records s')

    pub layer_clears : Clears s s'
    layer_clears = cleared_clears s (extent.first + (l - 1)) place

    pub layers_same : extent'.layers ≡ extent.layers
    layers_same = ap (λ (x : Extent). x.layers) (clears_extent s s' layer_clears k)

    record_in : (j : ℕ) → layer_record s' extent' j ≡ record_at s' (extent.first + (j - 1))
    unfolding layer_record
    record_in j = ap (λ (x : Extent). record_at s' (x.first + (j - 1))) (clears_extent s s' layer_clears k)

    pub record_own : layer_record s' extent' l ≡ marked 0 (layer_record s extent l)
    unfolding layer_record
    record_own = record_in l ∙ record_cleared s (extent.first + (l - 1)) place

    pub record_same : (j : ℕ) → 1 ≤ j → j ≢ l → layer_record s' extent' j ≡ layer_record s extent j
    unfolding layer_record
    record_same j h n = record_in j ∙ record_other s (extent.first + (l - 1)) place (extent.first + (j - 1)) (λ z. n (omega arith))

    pub record_but : (j : ℕ) → marked 0 (layer_record s' extent' j) ≡ marked 0 (layer_record s extent j)
    unfolding layer_record
    record_but j =
        let i : ℕ = extent.first + (j - 1) in
        ap (marked 0) (record_in j)
        ∙ ⊎_elim (λ (e : record_at s' i ≡ record_at s i). ap (marked 0) e) (λ (e : record_at s' i ≡ marked 0 (record_at s i)). ap (marked 0) e) (layer_clears.each i)
