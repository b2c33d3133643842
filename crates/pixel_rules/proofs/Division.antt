-- The laws of division: the one step from main mask pixels to a layer's samples, and a layer's area.
-- Assumes nothing.
use Prim.Native.Nat.{ℕ, ◌+◌, ◌-◌, ◌*◌, ◌/◌, ◌%◌, ◌≤◌, ◌<◌}
use native.Mathlib.Nat.{div-lt_iff_lt-mul, div-one, div-eq_of_lt-le, mul-le-mul_right, add-mul, one-mul, mul_comm, mul-zero, add-zero}
use native.Mathlib.Omega.{arith}
use mathlib.Core.Path.{◌≡◌, refl, sym, ap, ◌∙◌}
use mathlib.Core.Logic.{⊎_elim}
use mathlib.Core.Bool.{Bool, true, false, ◌||◌, cond, or-true}
use mathlib.Core.List.{List}
use lib.ListN.{get_or}
use lib.Dec.{eqb, lit<}
use borrow.Author.Tests.{eqb-true, eq-eqb, ne_eqb}
use Rattle.laws.proofs.Cases.{cond_with, cond_both}
use Rattle.laws.proofs.Says.{Says, says_le, says_lt, says_and, says_eq, says_else}
use Rattle.sheet_rules.specs.declared.Colour.{Colour}
use Rattle.sheet_rules.specs.declared.Record.{Record}
use Rattle.sheet_rules.specs.Record.{is_grey}
use Rattle.pixel_rules.specs.declared.MainPos.{MainPos}
use Rattle.pixel_rules.specs.declared.SamplePos.{SamplePos}
use Rattle.pixel_rules.specs.Place.{ratio, left_of, top_of, area_end, scale, covers, inside, along_of, down_of}
use Rattle.pixel_rules.specs.Samples.{index_of, depth, plane_span, grey_of, colour_in}

-- ---- along one side

pub says_covers : (o : MainPos) (n k : ℕ) (p : MainPos) → Says (covers o n k p) ((o.0 ≤ p.0) × (p.0 < o.0 + n * k))
unfolding covers
says_covers o n k p = says_and (says_le o.0 p.0) (says_lt p.0 (o.0 + n * k))

-- nothing is covered by samples of no main pixel
pub covers_ratio : (o : MainPos) (n k : ℕ) (p : MainPos) → covers o n k p ≡ true → 0 < k
covers_ratio o n k p e =
    let c = (says_covers o n k p).told e in
    let a = c.0 in
    let b = c.1 in
    ⊎_elim (λ (z : k ≡ 0). let m : n * k ≡ 0 = ap (λ (j : ℕ). n * j) z ∙ mul-zero n in absurd (omega arith)) (λ (z : k ≡ 0 → ⊥). omega arith) (says_else (says_eq k 0))

-- an area ends where no 32-bit sum overflows
pub area_most : (o : MainPos) (n k : ℕ) → o.0 ≤ 65535 → n ≤ 65535 → k ≤ 12 → (area_end o n k).0 ≤ 851955
area_most o n k a b c =
    let m : k * n ≤ 12 * n = mul-le-mul_right n c in
    let e = mul_comm n k in
    omega arith

-- a covered place has its sample within the layer
pub scale_within : (o : MainPos) (n k : ℕ) (p : MainPos) → covers o n k p ≡ true → (scale k o p).0 < n
unfolding scale
scale_within o n k p e =
    let c = (says_covers o n k p).told e in
    let a = c.0 in
    let b = c.1 in
    (div-lt_iff_lt-mul (covers_ratio o n k p e)).1 (omega arith)

-- at the main resolution only the offset is taken away
pub scale_one : (o p : MainPos) → scale 1 o p ≡ record { 0 = p.0 - o.0 }
unfolding scale
scale_one o p = ap (λ (i : ℕ). let q : SamplePos = record { 0 = i } in q) (div-one (p.0 - o.0))

-- the k main pixels from the offset plus i times k on have sample i
pub scale_block : (k : ℕ) (o : MainPos) (i j : ℕ) → j < k → scale k o (record { 0 = o.0 + (i * k + j) }) ≡ record { 0 = i }
unfolding scale
scale_block k o i j h =
    let z : o.0 + (i * k + j) - o.0 ≡ i * k + j = omega arith in
    let m : (i + 1) * k ≡ i * k + k = add-mul i 1 k ∙ ap (λ (n : ℕ). i * k + n) (one-mul k) in
    let d : (i * k + j) / k ≡ i = div-eq_of_lt-le k (omega arith) (omega arith) in
    ap (λ (n : ℕ). let q : SamplePos = record { 0 = n } in q) (ap (λ (n : ℕ). n / k) z ∙ d)

-- ---- in a layer's area

pub says_inside : (main : ℕ) (r : Record) (x y : MainPos) → Says (inside main r x y) ((covers (left_of r) r.width (ratio main r) x ≡ true) × (covers (top_of r) r.height (ratio main r) y ≡ true))
unfolding inside
says_inside main r x y = says_and (record { told = λ e. e; shown = λ e. e }) (record { told = λ e. e; shown = λ e. e })

-- which offset belongs to which side, in the record's own numbers
pub inside_told : (main : ℕ) (r : Record) (x y : MainPos)
    → Says (inside main r x y) (((r.x ≤ x.0) × (x.0 < r.x + r.width * ratio main r)) × ((r.y ≤ y.0) × (y.0 < r.y + r.height * ratio main r)))
unfolding inside
inside_told main r x y = says_and (says_covers (left_of r) r.width (ratio main r) x) (says_covers (top_of r) r.height (ratio main r) y)

-- sample i of row j, of rows of w samples
pub index_below : (w h i j : ℕ) → i < w → j < h → j * w + i < w * h
index_below w h i j a b =
    let m : (j + 1) * w ≡ j * w + w = add-mul j 1 w ∙ ap (λ (n : ℕ). j * w + n) (one-mul w) in
    let c : (j + 1) * w ≤ h * w = mul-le-mul_right w (omega arith) in
    let d = mul_comm h w in
    omega arith

pub index_within : (main : ℕ) (r : Record) (x y : MainPos) → inside main r x y ≡ true → index_of main r x y < r.width * r.height
unfolding index_of
index_within main r x y e =
    let c = (says_inside main r x y).told e in
    index_below r.width r.height (along_of main r x).0 (down_of main r y).0
    (scale_within (left_of r) r.width (ratio main r) x c.0)
    (scale_within (top_of r) r.height (ratio main r) y c.1)

-- ---- in a layer's octets

module _ (r : Record) where
  pub depth_mask : r.layer % 2 ≡ 0 → depth r ≡ 1
  depth_mask e = simp (eq-eqb (r.layer % 2) 0 e) refl

  pub depth_grey : is_grey r ≡ true → depth r ≡ 1
  depth_grey e = simp (e, or-true (eqb (r.layer % 2) 0)) refl

  pub depth_image : r.layer % 2 ≡ 1 → depth r ≡ cond (is_grey r) 1 3
  depth_image e = simp (ne_eqb (r.layer % 2) 0 (λ z. omega arith)) refl

  pub depth_colour : r.layer % 2 ≡ 1 → is_grey r ≡ false → depth r ≡ 3
  depth_colour e g = depth_image e ∙ ap (λ (b : Bool). cond b 1 3) g

  -- all samples of a layer: one octet each in a mask and in a grey layer, three in any other
  pub span_mask : r.layer % 2 ≡ 0 → plane_span r ≡ r.width * r.height
  unfolding plane_span
  span_mask e = ap (λ (n : ℕ). r.width * r.height * n) (depth_mask e) ∙ omega arith

  pub span_grey : is_grey r ≡ true → plane_span r ≡ r.width * r.height
  unfolding plane_span
  span_grey e = ap (λ (n : ℕ). r.width * r.height * n) (depth_grey e) ∙ omega arith

  pub span_colour : r.layer % 2 ≡ 1 → is_grey r ≡ false → plane_span r ≡ r.width * r.height * 3
  unfolding plane_span
  span_colour e g = ap (λ (n : ℕ). r.width * r.height * n) (depth_colour e g)

-- the octets of a sample lie within the layer's
pub span_within : (r : Record) (i : ℕ) → i < r.width * r.height → i * depth r + depth r ≤ plane_span r
unfolding plane_span
span_within r i h =
    let m : (i + 1) * depth r ≤ r.width * r.height * depth r = mul-le-mul_right (depth r) (omega arith) in
    let b = add-mul i 1 (depth r) in
    let c = one-mul (depth r) in
    omega arith

pub sample_within : (main : ℕ) (r : Record) (x y : MainPos) → inside main r x y ≡ true → index_of main r x y * depth r + depth r ≤ plane_span r
sample_within main r x y e = span_within r (index_of main r x y) (index_within main r x y e)

-- a layer has an octet a sample at least
pub depth_some : (r : Record) → 0 < depth r
depth_some r = cond_with (λ (n : ℕ). 0 < n) (eqb (r.layer % 2) 0 || is_grey r) (λ t. lit< tt) (λ t. lit< tt)

-- a sample's colour hangs on its own octets alone
pub colour_own : (n : ℕ) (d e : List ℕ) (p q : ℕ) → 0 < n → ((j : ℕ) → j < n → get_or e (q + j) 0 ≡ get_or d (p + j) 0) → colour_in n e q ≡ colour_in n d p
unfolding colour_in
colour_own n d e p q h f =
    let z : get_or e q 0 ≡ get_or d p 0 = ap (λ (i : ℕ). get_or e i 0) (sym (add-zero q)) ∙ f 0 h ∙ ap (λ (i : ℕ). get_or d i 0) (add-zero p) in
    cond_both (λ (c k : Colour). c ≡ k) (eqb n 3)
    (λ t.
    let m = eqb-true n 3 t in
    let one = f 1 (omega arith) in
    let two = f 2 (omega arith) in
    λ i. record { c0 = z i; c1 = one i; c2 = two i })
    (λ t. ap grey_of z)
