-- One law for each way out of the way down: its premises are what is known there.
-- Assumes nothing.
use Prim.Native.Nat.{ℕ, zero, suc, ◌+◌, ◌-◌, ◌*◌, ◌≤◌, ◌<◌}
use native.Mathlib.Omega.{arith}
use mathlib.Core.Path.{◌≡◌, ap, ◌∙◌}
use mathlib.Core.Bool.{Bool, true, false}
use mathlib.Core.List.{List}
use lib.ListN.{length}
use borrow.Author.Rules.{rules}
use Rattle.pixel_rules.specs.declared.MainPos.{MainPos}
use Rattle.std.specs.Prelude.{Option}
use Rattle.sheet_rules.specs.declared.Colour.{Colour}
use Rattle.pixel_rules.specs.declared.Mask.{Mask}
use Rattle.pixel_rules.specs.declared.Mask.TheVariants.{Zero, One, Hidden}
use Rattle.pixel_rules.specs.Down.{passing, candidates, MayShow}
use Rattle.line_fetch.specs.declared.Row.{Row}
use Rattle.line_fetch.specs.Rows.{row_size, row_at, row_mask, row_image, MaskFits, ImageFits}
use Rattle.line_pixel.specs.Rows.{row_masks, MasksFit, RowsFit}
use Rattle.line_pixel.specs.Lead.{way_from}

-- ---- a pair on the way

candidates_at : (mask : ℕ → Mask) (j : ℕ) (m : Mask) → 0 < j → m ≡ mask j → candidates mask j ≡ passing m j (candidates mask (j - 1))
unfolding candidates
candidates_at mask zero m h e = absurd (omega arith)
candidates_at mask (suc j) m h e = let z : suc j - 1 ≡ j = omega arith in rw (e, z)

module _ (d ns : List ℕ) (x : MainPos) where
  abbrev mask : ℕ → Mask
  mask = row_masks d ns x

  pub lead_passed : (from j : ℕ) (r : Row) (m : Mask) → candidates (row_masks d ns x) from ≡ candidates (row_masks d ns x) j → 0 < j → r ≡ row_at ns (j * 2)
      → m ≡ row_mask d r x → m ≡ Zero → candidates (row_masks d ns x) from ≡ candidates (row_masks d ns x) (j - 1)
  unfolding passing
  lead_passed from j r m p h er em e = p ∙ candidates_at mask j m h (rw er at em) ∙ rw e

  led_by : (from j : ℕ) (r : Row) (m : Mask) (b : Bool) → candidates (row_masks d ns x) from ≡ candidates (row_masks d ns x) j → 0 < j → r ≡ row_at ns (j * 2)
      → m ≡ row_mask d r x → passing m j (candidates (row_masks d ns x) (j - 1)) ≡ way_from (row_masks d ns x) (record { pair = j; sure = b })
      → candidates (row_masks d ns x) from ≡ way_from (row_masks d ns x) (record { pair = j; sure = b })
  led_by from j r m b p h er em e = p ∙ candidates_at mask j m h (rw er at em) ∙ e

  pub lead_sure : (from j : ℕ) (r : Row) (m : Mask) → candidates (row_masks d ns x) from ≡ candidates (row_masks d ns x) j → 0 < j → r ≡ row_at ns (j * 2)
      → m ≡ row_mask d r x → m ≡ One → candidates (row_masks d ns x) from ≡ way_from (row_masks d ns x) (record { pair = j; sure = true })
  unfolding passing way_from
  lead_sure from j r m p h er em e = led_by from j r m true p h er em (rw e)

  pub lead_unsure : (from j : ℕ) (r : Row) (m : Mask) → candidates (row_masks d ns x) from ≡ candidates (row_masks d ns x) j → 0 < j → r ≡ row_at ns (j * 2)
      → m ≡ row_mask d r x → m ≡ Hidden → candidates (row_masks d ns x) from ≡ way_from (row_masks d ns x) (record { pair = j; sure = false })
  unfolding passing way_from
  lead_unsure from j r m p h er em e = led_by from j r m false p h er em (rw e)

  pub lead_lowest : (from j : ℕ) → candidates (row_masks d ns x) from ≡ candidates (row_masks d ns x) j → j ≤ 0
      → candidates (row_masks d ns x) from ≡ way_from (row_masks d ns x) (record { pair = 0; sure = true })
  unfolding candidates way_from
  lead_lowest from j p h = let z : j ≡ 0 = omega arith in p ∙ ap (candidates mask) z

-- ---- what is read is there

module _ (d ns : List ℕ) where
  pub fits_room : (from j : ℕ) → MasksFit d ns from → j ≤ from → 0 < j → j * 2 * row_size ≤ length ns
  fits_room from j g l h = let r = g.room in omega arith

  pub fits_mask : (from j : ℕ) (r : Row) → MasksFit d ns from → j ≤ from → 0 < j → r ≡ row_at ns (j * 2) → MaskFits d r
  fits_mask from j r g l h e = rw e (g.mask j h l)

-- ---- the sample of a layer that may show

module _ (s d ns : List ℕ) (pairs : ℕ) where
  pub room_shown : (mask : ℕ → Mask) (j : ℕ) → RowsFit s d ns pairs → MayShow mask pairs j → (j * 2 + 1) * row_size ≤ length ns
  room_shown mask zero g h = g.room
  room_shown mask (suc j) g h = (g.pair (suc j) (omega arith) h.most).room

  pub fits_shown : (mask : ℕ → Mask) (j : ℕ) (r : Row) → RowsFit s d ns pairs → MayShow mask pairs j → r ≡ row_at ns (j * 2 + 1) → ImageFits s d r
  fits_shown mask zero r g h e = rw e g.image
  fits_shown mask (suc j) r g h e = rw e (g.pair (suc j) (omega arith) h.most).image

pub image_made : (s d ns : List ℕ) (j : ℕ) (x : MainPos) (r : Row) (p : Option Colour) → r ≡ row_at ns (j * 2 + 1) → p ≡ row_image s d r x
    → p ≡ row_image s d (row_at ns (j * 2 + 1)) x
image_made s d ns j x r p e f = rw (f, e)

pub ruleset leading = (rules, lead_passed, lead_sure, lead_unsure, lead_lowest, fits_room, fits_mask, room_shown, fits_shown, image_made)
