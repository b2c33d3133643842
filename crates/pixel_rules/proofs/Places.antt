-- The sample of a layer at a place, case by case (01, "Colour of a pixel"): coded or not, inside or outside, read or unread.
-- Assumes nothing.
use Prim.Native.Nat.{ℕ, ◌+◌, ◌-◌, ◌*◌, ◌%◌}
use native.Mathlib.Nat.{mul-one}
use mathlib.Core.Path.{◌≡◌, refl, sym, ◌∙◌}
use mathlib.Core.Logic.{◌≢◌}
use mathlib.Core.Bool.{true, false, ◌&&◌, false≢true}
use lib.ListN.{get_or}
use borrow.Author.Tests.{eq-eqb, ne_eqb}
use Rattle.laws.proofs.Cases.{cond_with}
use Rattle.laws.proofs.Says.{says_and, says_true}
use Rattle.sheet_rules.specs.declared.Record.{Record}
use Rattle.sheet_rules.specs.Judge.{coded}
use Rattle.sheet_rules.specs.Sentences.{Coded, Uncoded}
use Rattle.pixel_rules.specs.declared.MainPos.{MainPos}
use Rattle.std.specs.Prelude.{Some, None}
use Rattle.pixel_rules.specs.declared.Mask.TheVariants.{Zero, One, Hidden}
use Rattle.pixel_rules.specs.Place.{inside}
use Rattle.pixel_rules.specs.Planes.{plane_start}
use Rattle.pixel_rules.specs.Samples.{Scene, record_of, main_of, index_of, bit_of, base_of, virtual, colour_in, mask_read, image_read, mask_at, image_at}
use Rattle.sheet_rules.specs.Record.{record_at, colour_at, is_grey}
use Rattle.sheet_rules.specs.StripeTable.{layer_record}
use Rattle.pixel_rules.proofs.Division.{depth_grey, depth_colour}

pub coded_true : (r : Record) → Coded r → coded r ≡ true
coded_true r h = simp (ne_eqb r.len 0 h)

pub coded_false : (r : Record) → Uncoded r → coded r ≡ false
coded_false r h = simp (eq-eqb r.len 0 h)

module _ (v : Scene) (l : ℕ) (x y : MainPos) where
  -- ---- outside its area an image layer gives its base colour and a mask gives 0; and so where it is not coded

  pub image_outside : inside (main_of v) (record_of v l) x y ≡ false → image_at v l x y ≡ Some (base_of (record_of v l))
  unfolding image_at
  image_outside o =
      cond_with (λ s. s ≡ Some (base_of (record_of v l))) (coded (record_of v l) && inside (main_of v) (record_of v l) x y)
      (λ t. absurd (false≢true (sym o ∙ ((says_and (says_true (coded (record_of v l))) (says_true (inside (main_of v) (record_of v l) x y))).told t).1)))
      (λ t. refl)

  pub image_uncoded : Uncoded (record_of v l) → image_at v l x y ≡ Some (base_of (record_of v l))
  unfolding image_at
  image_uncoded h = simp (coded_false (record_of v l) h)

  -- the base colour in the sheet's octets: 14, 15 and 16 of the layer's 28, the stripe's first being those of layer 1
  pub base_octets : base_of (record_of v l)
      ≡ record {
        c0 = get_or v.sheet ((v.extent.first + (l - 1)) * 28 + 14) 0;
        c1 = get_or v.sheet ((v.extent.first + (l - 1)) * 28 + 15) 0;
        c2 = get_or v.sheet ((v.extent.first + (l - 1)) * 28 + 16) 0;
      }
  unfolding layer_record record_at
  base_octets = refl

  pub mask_outside : Coded (record_of v l) → inside (main_of v) (record_of v l) x y ≡ false → mask_at v l x y ≡ Zero
  unfolding mask_at
  mask_outside h o = simp (coded_true (record_of v l) h, o)

  -- an uncoded mask gives 0, but an uncoded layer 2 gives 1 all over a stripe whose layer 3 is coded
  pub mask_uncoded : Uncoded (record_of v l) → l ≢ 2 → mask_at v l x y ≡ Zero
  unfolding mask_at virtual
  mask_uncoded h n = simp (coded_false (record_of v l) h, ne_eqb l 2 n)

  pub mask_uncoded_2 : Uncoded (record_of v l) → l ≡ 2 → Uncoded (record_of v 3) → mask_at v l x y ≡ Zero
  unfolding mask_at virtual
  mask_uncoded_2 h n t = simp (coded_false (record_of v l) h, eq-eqb l 2 n, coded_false (record_of v 3) t)

  pub mask_virtual : Uncoded (record_of v l) → l ≡ 2 → Coded (record_of v 3) → mask_at v l x y ≡ One
  unfolding mask_at virtual
  mask_virtual h n t = simp (coded_false (record_of v l) h, eq-eqb l 2 n, coded_true (record_of v 3) t)

  -- ---- inside it is what was read at its sample, and not known where the layer is unread

  module _ (h : Coded (record_of v l)) (o : inside (main_of v) (record_of v l) x y ≡ true) where
    pub image_read_at : (a : ℕ) → plane_start v.planes l ≡ Some a → (record_of v l).layer % 2 ≡ 1 → is_grey (record_of v l) ≡ false
        → image_at v l x y ≡ Some (colour_at v.samples (a + index_of (main_of v) (record_of v l) x y * 3))
    unfolding image_at image_read colour_in
    image_read_at a e odd g = simp (coded_true (record_of v l) h, o, e, depth_colour (record_of v l) odd g)

    -- a grey layer's octet is lightness, and its colour is written out here once more
    pub grey_read_at : (a : ℕ) → plane_start v.planes l ≡ Some a → is_grey (record_of v l) ≡ true
        → image_at v l x y ≡ Some (record { c0 = get_or v.samples (a + index_of (main_of v) (record_of v l) x y) 0; c1 = 128; c2 = 96 })
    unfolding image_at image_read colour_in
    grey_read_at a e g = simp (coded_true (record_of v l) h, o, e, depth_grey (record_of v l) g, mul-one) refl

    pub image_unread : plane_start v.planes l ≡ None → image_at v l x y ≡ None
    unfolding image_at image_read
    image_unread e = simp (coded_true (record_of v l) h, o, e) refl

    -- 0 is 0, all else 1
    pub mask_read_0 : (a : ℕ) → plane_start v.planes l ≡ Some a → get_or v.samples (a + index_of (main_of v) (record_of v l) x y) 0 ≡ 0 → mask_at v l x y ≡ Zero
    unfolding mask_at mask_read bit_of
    mask_read_0 a e z = simp (coded_true (record_of v l) h, o, e, z)

    pub mask_read_1 : (a : ℕ) → plane_start v.planes l ≡ Some a → get_or v.samples (a + index_of (main_of v) (record_of v l) x y) 0 ≢ 0 → mask_at v l x y ≡ One
    unfolding mask_at mask_read bit_of
    mask_read_1 a e z = simp (coded_true (record_of v l) h, o, e, ne_eqb _ 0 z)

    pub mask_unread : plane_start v.planes l ≡ None → mask_at v l x y ≡ Hidden
    unfolding mask_at mask_read
    mask_unread e = simp (coded_true (record_of v l) h, o, e)
