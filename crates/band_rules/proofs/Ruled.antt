-- A band is ruled as line 0 is: every stripe has a line 0, and its other lines are ruled the same.
-- Assumes nothing.
use Prim.Native.Nat.{ℕ, ◌+◌, ◌<◌}
use native.Mathlib.Omega.{arith}
use mathlib.Core.Path.{◌≡◌, refl}
use mathlib.Core.Logic.{⊎_elim}
use mathlib.Core.List.{List}
use lib.ListN.{length}
use lib.Dec.{lit≤}
use borrow.Author.Tests.{lt-ltb}
use Rattle.laws.proofs.Says.{says_lt, says_else}
use Rattle.answers.specs.declared.Refusal.TheVariants.{BadSheet, BadLine, BadPlane}
use Rattle.std.specs.Prelude.{Result, Ok, Err}
use Rattle.sheet_rules.specs.declared.Counts.{Counts}
use Rattle.sheet_rules.specs.Record.{records, nth}
use Rattle.sheet_rules.specs.Judge.{judge_of}
use Rattle.sheet_rules.specs.Sentences.{stripe_count, Accepted, BadSheetAt}
use Rattle.sheet_rules.specs.StripeTable.{extent_of}
use Rattle.sheet_rules.proofs.Among.{nth_among}
use Rattle.sheet_rules.proofs.Theorems.{sheet_accepted}
use Rattle.sheet_rules.proofs.Table.{sheet_table, stripe_found_lem, stripe_missing, layer_found_lem}
use Rattle.pixel_rules.specs.Planes.{PlaneList}
use Rattle.picture_rules.specs.Line.{Ruling, shows, refused, stripe_ruling, sheet_ruling, ruling_of}
use Rattle.picture_rules.specs.Sentences.{HasLine, scene_of, AllFine, PlaneAt}
use Rattle.picture_rules.proofs.Ruled.{ruling_cases}
use Rattle.band_rules.specs.Sentences.{HasStripe}

-- ---- every stripe has a line 0

pub accepted_good : (s : List ℕ) → Accepted s → judge_of s ≡ Ok (record { records = length (records s); stripes = stripe_count (records s) })
accepted_good s a = (sheet_accepted s (length (records s)) (stripe_count (records s))).1 (record { sheet = a.0; whole = a.1; count = refl; stripes = refl })

pub stripe_high : (s : List ℕ) (k : ℕ) → Accepted s → HasStripe s k → 0 < (extent_of k (records s)).height
stripe_high s k a h =
    let t = sheet_table (records s) a.0 in
    let c = t.layers k h in
    let c1 = c.1 in
    let i : ℕ = (extent_of k (records s)).first + 1 in
    let w = (layer_found_lem s (length (records s)) (stripe_count (records s)) (accepted_good s a) k 2 (lit≤ tt) (omega arith)).3 in
    let l = (t.found k 2 (lit≤ tt) (omega arith)).1 in
    let e = t.height k h in
    let g = a.0.unbroken.high (nth (records s) i) (nth_among (records s) i (omega arith)) l in
    omega arith

pub stripe_line : (s : List ℕ) (k : ℕ) → Accepted s → HasStripe s k → HasLine s k 0
stripe_line s k a h = record { stripe = h; line = stripe_high s k a h }

module _ (s : List ℕ) (pl : PlaneList) (d : List ℕ) (k : ℕ) where
  -- the four ways that the ruling on a band can come about
  pub band_cases : (P : Ruling → Type 0)
      → ((i : ℕ) → BadSheetAt s i → P (refused (BadSheet i)))
      → (Accepted s → (HasStripe s k → ⊥) → P (refused BadLine))
      → (Accepted s → HasStripe s k → (i : ℕ) → PlaneAt (scene_of s pl d k) pl i → P (refused (BadPlane i)))
      → (Accepted s → HasStripe s k → AllFine (scene_of s pl d k) pl → P (shows (scene_of s pl d k)))
      → P (ruling_of s pl d k 0)
  band_cases P sheet stripe planes good =
      ruling_cases s pl d k 0 P sheet (λ a h. stripe a (λ q. h (stripe_line s k a q))) (λ a h i f. planes a h.stripe i f) (λ a h f. good a h.stripe f)

  -- ---- every line of a stripe is ruled as line 0 is

  pub ruling_any_line : (y : ℕ) → y < (extent_of k (records s)).height → ruling_of s pl d k y ≡ ruling_of s pl d k 0
  unfolding ruling_of sheet_ruling stripe_ruling
  ruling_any_line y l = by (judge_of s) refl
    where
      by : (x : Result Counts ℕ) → judge_of s ≡ x → sheet_ruling s pl d k y x ≡ sheet_ruling s pl d k 0 x
      by (Err i) g = refl
      by (Ok c) g =
          ⊎_elim
          (λ (h : k < c.stripes).
          let z : 0 < (extent_of k (records s)).height = omega arith in
          simp (stripe_found_lem s c.records c.stripes g k h, lt-ltb y (extent_of k (records s)).height l, lt-ltb 0 (extent_of k (records s)).height z) refl)
          (λ (h : k < c.stripes → ⊥). simp (stripe_missing s c.records c.stripes g k (omega arith)) refl)
          (says_else (says_lt k c.stripes))
