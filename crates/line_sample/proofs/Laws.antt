-- One law for each way out of the functions of a sample: its premises are what is known there.
-- Assumes nothing.
use Prim.Native.Nat.{ℕ, ◌+◌, ◌-◌, ◌*◌, ◌/◌, ◌%◌, ◌≤◌, ◌<◌}
use native.Mathlib.Nat.{mul-le-mul}
use native.Mathlib.Omega.{arith}
use mathlib.Core.Path.{◌≡◌, refl, sym, ap, ◌∙◌}
use mathlib.Core.Bool.{true, false, ◌||◌, cond}
use mathlib.Core.List.{List}
use lib.ListN.{get_or}
use lib.Dec.{eqb}
use mathlib.Core.Logic.{◌≢◌}
use borrow.Author.Tests.{eq-eqb, ne_eqb}
use borrow.Author.Rules.{rules}
use Rattle.pixel_rules.specs.declared.MainPos.{MainPos}
use Rattle.pixel_rules.specs.declared.SamplePos.{SamplePos}
use Rattle.pixel_rules.specs.declared.Mask.TheVariants.{Zero, One}
use Rattle.pixel_rules.specs.Place.{scale}
use Rattle.pixel_rules.specs.Samples.{bit_of, colour_in, depth}
use Rattle.sheet_rules.specs.declared.Record.{Record}
use Rattle.sheet_rules.specs.Record.{is_grey}
use Rattle.line_sample.specs.Factor.{factor_of, Steps}
use Rattle.line_sample.proofs.Factor.{factor_fits, factor_divides}

-- ---- the scaling step: each constant is the factor of its ratio, and the product with it is divided as the place is

module _ (k : ℕ) where
  pub factor_is : (c f : ℕ) → k ≡ c → f ≡ factor_of c → f ≡ factor_of k
  factor_is c f e z = z ∙ ap factor_of (sym e)

  pub factor_any : (281474976710655 + k) / k ≡ factor_of k
  unfolding factor_of
  factor_any = refl

module _ (k f : ℕ) (o p : MainPos) (g : Steps k f o p) where
  place_near : (p.0 - o.0) / k < 65536
  unfolding scale
  place_near = g.near

  pub place_fits : (p.0 - o.0) * f < 18446744073709551616
  place_fits = rw g.factor (factor_fits k (p.0 - o.0) g.some g.small place_near)

  pub place_scaled : record { 0 = (p.0 - o.0) * f / 281474976710656 } ≡ scale k o p
  unfolding scale
  place_scaled =
      ap (λ (i : ℕ). let q : SamplePos = record { 0 = i } in q)
      (ap (λ (i : ℕ). (p.0 - o.0) * i / 281474976710656) g.factor ∙ factor_divides k (p.0 - o.0) g.some g.small place_near)

-- ---- a bit

pub bit_zero : (v : ℕ) → v ≡ 0 → Zero ≡ bit_of v
unfolding bit_of
bit_zero v e = simp (eq-eqb v 0 e)

pub bit_one : (v : ℕ) → v ≢ 0 → One ≡ bit_of v
unfolding bit_of
bit_one v d = simp (ne_eqb v 0 d)

pub ruleset scaling = (rules, factor_is, factor_any, place_fits, place_scaled)

pub ruleset bits = (rules, bit_zero, bit_one)

-- ---- a colour: of three octets, and of one

module _ (n : ℕ) (d : List ℕ) (p : ℕ) where
  pub colour_three : n ≡ 3 → record { c0 = get_or d p 0; c1 = get_or d (p + 1) 0; c2 = get_or d (p + 2) 0 } ≡ colour_in n d p
  unfolding colour_in
  colour_three e = simp (eq-eqb n 3 e)

  pub colour_one : n ≢ 3 → record { c0 = get_or d p 0; c1 = 128; c2 = 96 } ≡ colour_in n d p
  unfolding colour_in
  colour_one e = simp (ne_eqb n 3 e)

pub ruleset colours = (rules, colour_three, colour_one)

-- ---- the octets of samples

module _ (r : Record) where
  pub depth_one : eqb (r.layer % 2) 0 || is_grey r ≡ true → (1 ≡ depth r) × (1 ≤ 3)
  depth_one e = (sym (ap (λ t. cond t 1 3) e), omega arith)

  pub depth_three : eqb (r.layer % 2) 0 || is_grey r ≡ false → (3 ≡ depth r) × (3 ≤ 3)
  depth_three e = (sym (ap (λ t. cond t 1 3) e), omega arith)

pub ruleset depths = (rules, depth_one, depth_three)

pub octets_small : (n each : ℕ) → (n < 4294967296) × (each ≤ 3) → n * each < 12884901888
octets_small n each h = let p = h.0 in let q : n ≤ n = omega arith in let m : n * each ≤ n * 3 = mul-le-mul q h.1 in omega arith

pub product_small : (w h : ℕ) → w < 65536 → h < 65536 → w * h < 4294967296
product_small w h a b = let p : w ≤ 65535 = omega arith in let q : h ≤ 65535 = omega arith in let m : w * h ≤ 65535 * 65535 = mul-le-mul p q in omega arith
