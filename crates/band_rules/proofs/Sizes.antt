-- How large a band can be: below 2^33 octets, which 32 bits do not count and 64 do (02, 2026-12).
-- Assumes nothing.
use Rattle.std.specs.Prelude.{Ok}
use Prim.Native.Nat.{ℕ, ◌*◌, ◌≤◌}
use native.Mathlib.Nat.{mul-le-mul}
use native.Mathlib.Omega.{arith}
use mathlib.Core.Path.{◌≡◌, refl}
use mathlib.Core.Bool.{Bool}
use mathlib.Core.List.{List, [], ◌∷◌}
use lib.Dec.{eqb, ltb, lit≤}
use Rattle.laws.specs.Tests.{only}
use Rattle.laws.proofs.Cases.{cond_with, clash}
use Rattle.sheet_rules.specs.declared.Record.{Record}
use Rattle.sheet_rules.specs.Record.{records, sum_of, height_in}
use Rattle.sheet_rules.specs.Sentences.{heights}
use Rattle.sheet_rules.specs.StripeTable.{extent_of}
use Rattle.pixel_rules.specs.Planes.{PlaneList}
use Rattle.pixel_rules.specs.Samples.{Scene, width_of}
use Rattle.picture_rules.specs.Line.{ruling_of}
use Rattle.picture_rules.specs.Sentences.{scene_of}
use Rattle.picture_rules.proofs.Scenes.{shows_stage, scene_width}
use Rattle.band_rules.specs.Band.{band_size, band_answer, band_of}
use Rattle.band_rules.proofs.Ruled.{band_cases}

-- a stripe is no higher than the page
stripe_in_page : (k : ℕ) (rs : List Record) → (extent_of k rs).height ≤ heights rs
unfolding extent_of heights sum_of
stripe_in_page k [] = lit≤ tt
stripe_in_page k (r ∷ rs) = let l = stripe_in_page k rs in let m = only_less (eqb r.stripe k) (height_in r) in omega arith
  where
    only_less : (b : Bool) (n : ℕ) → only b n ≤ n
    only_less b n = cond_with (λ (m : ℕ). m ≤ n) b (λ t. omega arith) (λ t. omega arith)

-- four octets a pixel, of a width up to 32,768 and a height up to 65,535
pub band_count : (s : List ℕ) (pl : PlaneList) (d : List ℕ) (k room n : ℕ) → band_of s pl d k room ≡ Ok n → n ≤ 8589803520
unfolding band_of band_answer band_size
band_count s pl d k room n =
    band_cases s pl d k (λ r. ruling_of s pl d k 0 ≡ r → band_answer room r ≡ Ok n → n ≤ 8589803520)
    (λ i b e q. clash cc)
    (λ a b e q. clash cc)
    (λ a b i f e q. clash cc)
    (λ a b f e.
    let v : Scene = scene_of s pl d k in
    cond_with (λ x. x ≡ Ok n → n ≤ 8589803520) (ltb room (band_size v))
    (λ t q. clash cc)
    (λ t q.
    let z : width_of v * v.extent.height * 4 ≡ n = cc in
    let w = scene_width (shows_stage s pl d k 0 v e) in
    let high = stripe_in_page k (records s) in
    let page = a.0.unbroken.tall in
    let m = mul-le-mul {n₁ = width_of v} {m₁ = v.extent.height} {n₂ = 32768} {m₂ = 65535} w.1 (omega arith) in
    omega arith))
    refl
