-- A sheet that the judge takes, a stripe that is found in it, and a record at fault: laws for whoever begins with these.
-- Assumes nothing.
use Prim.Native.Nat.{ℕ, ◌<◌}
use native.Mathlib.Omega.{arith}
use mathlib.Core.Path.{◌≡◌, sym, subst, ◌∙◌}
use mathlib.Core.Logic.{⊎_elim}
use mathlib.Core.List.{List}
use Rattle.laws.proofs.Cases.{clash}
use Rattle.laws.proofs.Says.{says_lt, says_else}
use Rattle.sheet_rules.specs.declared.Extent.{Extent}
use Rattle.std.specs.Prelude.{Option, Some, Result, Ok, Err}
use Rattle.sheet_rules.specs.declared.Counts.{Counts}
use Rattle.sheet_rules.specs.Record.{records}
use Rattle.sheet_rules.specs.Judge.{judge_of}
use Rattle.sheet_rules.specs.StripeTable.{extent_of, find_stripe}
use Rattle.sheet_rules.proofs.Theorems.{sheet_accepted, refused_few, sheet_few}
use Rattle.sheet_rules.proofs.Table.{sheet_table, stripe_found_lem, stripe_missing, layer_found_lem}
use Rattle.sheet_table.specs.Steps.{Whole, JudgedGood}

pub sheet_good : (s : List ℕ) (v : Result Counts ℕ) (c : Counts) → v ≡ judge_of s → v ≡ Ok c → JudgedGood s
sheet_good s v c e z = record { counts = c; good = sym e ∙ z }

-- a stripe that is found has its records in the sheet
pub found_whole : (s : List ℕ) (k : ℕ) (f : Option Extent) (extent : Extent) → JudgedGood s → f ≡ find_stripe s k → f ≡ Some extent → Whole s extent
found_whole s k f extent g e z = ⊎_elim in_sheet past (says_else (says_lt k g.counts.stripes))
  where
    in_sheet : k < g.counts.stripes → Whole s extent
    in_sheet h =
        let q : extent ≡ extent_of k (records s) = let w = stripe_found_lem s g.counts.records g.counts.stripes g.good k h in cc in
        let n = (sheet_few s g.counts.records g.counts.stripes g.good).3 in
        let m = (sheet_few s g.counts.records g.counts.stripes g.good).0 in
        let z = (sheet_accepted s g.counts.records g.counts.stripes).0 g.good in
        let st = z.stripes in
        let c = (sheet_table (records s) z.sheet).layers k (omega arith) in
        let l = (layer_found_lem s g.counts.records g.counts.stripes g.good k (extent_of k (records s)).layers (omega arith) (omega arith)).3 in
        subst (Whole s) (sym q) (record { records = omega arith; few = omega arith })

    past : (k < g.counts.stripes → ⊥) → Whole s extent
    past h = let w = stripe_missing s g.counts.records g.counts.stripes g.good k (omega arith) in clash cc

pub fault_small : (s : List ℕ) (v : Result Counts ℕ) (i : ℕ) → v ≡ judge_of s → v ≡ Err i → i < 4294967296
fault_small s v i e z = let f = (refused_few s i (sym e ∙ z)).0 in omega arith
