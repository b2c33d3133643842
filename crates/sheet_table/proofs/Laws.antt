-- One law for each way out of the functions that find a stripe and a layer: its premises are what is known there.
-- Assumes nothing.
use mathlib.Core.Path.{◌≡◌, refl, sym, ap, ap₂, ◌∙◌}
use Prim.Native.Nat.{ℕ, ◌+◌, ◌-◌, ◌*◌, ◌/◌, ◌≤◌, ◌<◌, min}
use native.Mathlib.Omega.{arith}
use native.Mathlib.Nat.{add-zero}
use mathlib.Core.Bool.{Bool, true, false, ◌&&◌}
use mathlib.Core.List.{List}
use lib.ListN.{length}
use lib.Dec.{eqb, ltb, leb}
use borrow.Author.Tests.{eq-eqb, ne_eqb, lt-ltb, le-ltb, le-leb, lt-leb}
use borrow.Author.Rules.{rules}
use Rattle.octets.specs.Entries.{entries_from}
use Rattle.octets.proofs.Entries.{entries_one_more}
use Rattle.sheet_rules.specs.declared.Record.{Record}
use Rattle.sheet_rules.specs.declared.Extent.{Extent}
use Rattle.std.specs.Prelude.{Option, Some, None}
use Rattle.sheet_rules.specs.Record.{record_size, record_at, records_from, height_in, most_records}
use Rattle.laws.specs.Tests.{only}
use Rattle.sheet_rules.specs.StripeTable.{extent_of, with_record, few, found_extent, find_stripe, find_layer}
use Rattle.sheet_rules.proofs.Table.{extent_none, extent_more}

-- ---- a layer of a stripe

module _ (extent : Extent) (l : ℕ) where
  pub layer_zero : l < 1 → None ≡ find_layer extent l
  unfolding find_layer
  layer_zero h = simp (lt-leb 1 l h)

  pub layer_past : extent.layers < l → None ≡ find_layer extent l
  unfolding find_layer
  layer_past h = simp (lt-leb l extent.layers h, and_no (leb 1 l))
    where
      and_no : (b : Bool) → b && false ≡ false
      and_no true = refl
      and_no false = refl

  pub layer_at : 1 ≤ l → l ≤ extent.layers → Some (extent.first + (l - 1)) ≡ find_layer extent l
  unfolding find_layer
  layer_at d h = simp (le-leb 1 l d, le-leb l extent.layers h)

-- ---- an extent that has records, and one that has none

module _ (extent : Extent) where
  pub extent_missing : extent.layers ≡ 0 → None ≡ found_extent extent
  unfolding found_extent
  extent_missing e = simp (eq-eqb extent.layers 0 e)

  pub extent_there : (extent.layers ≡ 0 → ⊥) → Some extent ≡ found_extent extent
  unfolding found_extent
  extent_there d = simp (ne_eqb extent.layers 0 d)

module _ (r : Record) where
  pub height_two : r.layer ≡ 2 → r.height ≡ height_in r
  height_two e = simp (eq-eqb r.layer 2 e)

  pub height_else : (r.layer ≡ 2 → ⊥) → 0 ≡ height_in r
  height_else d = simp (ne_eqb r.layer 2 d)

-- ---- one more record: of a stripe before, of the stripe itself, of one after it

module _ (k : ℕ) (extent : Extent) (r : Record) where
  pub more_before : (h : ℕ) → r.stripe < k → h ≡ height_in r
      → record { first = extent.first + 1; layers = extent.layers; top = extent.top + h; height = extent.height } ≡ with_record k extent r
  unfolding with_record
  more_before h l e = simp (lt-ltb r.stripe k l, ne_eqb r.stripe k (λ q. omega (arith, q, l)), e, add-zero extent.layers, add-zero extent.height)

  pub more_in : (h : ℕ) → r.stripe ≡ k → h ≡ height_in r
      → record { first = extent.first; layers = extent.layers + 1; top = extent.top; height = extent.height + h } ≡ with_record k extent r
  unfolding with_record
  more_in h q e = simp (eq-eqb r.stripe k q, le-ltb r.stripe k (omega (arith, q)), e, add-zero extent.first, add-zero extent.top)

  pub more_behind : k ≤ r.stripe → (r.stripe ≡ k → ⊥) → extent ≡ with_record k extent r
  unfolding with_record
  more_behind l d = simp (le-ltb r.stripe k l, ne_eqb r.stripe k d, add-zero extent.first, add-zero extent.layers, add-zero extent.top, add-zero extent.height)

-- ---- the loop over the records

-- the extent of the first i records, each of which adds little
pub record Counted (s : List ℕ) (k i : ℕ) (extent : Extent) : Type 0 where
  pub extent_is : extent ≡ extent_of k (records_from s i 0)
  pub first : extent.first ≤ i
  pub layers : extent.layers ≤ i
  pub top : extent.top ≤ i * 65535
  pub height : extent.height ≤ i * 65535

pub counted_begin : (s : List ℕ) (k : ℕ) → Counted s k 0 (record { first = 0; layers = 0; top = 0; height = 0 })
unfolding entries_from
counted_begin s k = record { extent_is = sym (extent_none k); first = omega arith; layers = omega arith; top = omega arith; height = omega arith }

only_most : (b : Bool) (n m : ℕ) → n ≤ m → only b n ≤ m
only_most true n m h = h
only_most false n m h = omega arith

pub counted_more : (s : List ℕ) (k i : ℕ) (extent t : Extent) (r : Record) → Counted s k i extent → r ≡ record_at s i → r.height < 65536
    → t ≡ with_record k extent r → Counted s k (i + 1) t
unfolding with_record
counted_more s k i extent t r c e h q =
    let z : height_in r ≤ 65535 = only_most (eqb r.layer 2) r.height 65535 (omega arith) in
    let a = only_most (ltb r.stripe k) 1 1 (omega arith) in
    let b = only_most (eqb r.stripe k) 1 1 (omega arith) in
    let d = only_most (ltb r.stripe k) (height_in r) 65535 z in
    let g = only_most (eqb r.stripe k) (height_in r) 65535 z in
    let f0 = ap (λ (x : Extent). x.first) q in
    let f1 = ap (λ (x : Extent). x.layers) q in
    let f2 = ap (λ (x : Extent). x.top) q in
    let f3 = ap (λ (x : Extent). x.height) q in
    let m = c.first in
    let n = c.layers in
    let o = c.top in
    let p = c.height in
    record {
      extent_is =
          q ∙ ap₂ (with_record k) c.extent_is e
          ∙ sym (ap (extent_of k) (entries_one_more (record_at s) i) ∙ extent_more k (records_from s i 0) (record_at s i));
      first = omega arith;
      layers = omega arith;
      top = omega arith;
      height = omega arith;
    }

pub counted_end : (s : List ℕ) (k n i : ℕ) (extent : Extent) (f : Option Extent) → n ≡ min (length s / record_size) most_records → Counted s k i extent → i ≤ n → n ≤ i
    → f ≡ found_extent extent → f ≡ find_stripe s k
unfolding find_stripe few
counted_end s k n i extent f e c h g q =
    let z : i ≡ min (length s / record_size) most_records = omega arith in
    q ∙ ap found_extent c.extent_is ∙ ap (λ (m : ℕ). found_extent (extent_of k (records_from s m 0))) z

pub ruleset finding = (rules, layer_zero, layer_past, layer_at, extent_missing, extent_there, height_two, height_else, more_before, more_in, more_behind, counted_begin, counted_more, counted_end)
