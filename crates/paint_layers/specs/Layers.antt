-- A part of a row painted layer by layer: the row itself holds what is decided so far, since a pixel's four octets tell what is known of it.
--
--   step_four un m up old    what a pixel is after a pair: its mask m, what its image layer shows and what stood there, `un` being the unseen pixel
--   stepping un s d m r x   the same by the rows of a mask and of its image layer, at pixel x
--   decided u s d ns n x    what pixel x shows after n pairs, whatever stood there
--   Lowest                  the pixels a up to b are decided up to pair j, which is f or above it
use Rattle.std.specs.Prelude.{ℕ, ◌≤◌, List}
use Rattle.sheet_rules.specs.declared.Colour.{Colour}
use Rattle.pixel_rules.specs.declared.Mask.{Mask}
use Rattle.pixel_rules.specs.declared.Mask.TheVariants.{Zero, One, Hidden}
use Rattle.pixel_rules.specs.Decide.{decide}
use Rattle.picture_rules.specs.Line.{four_of}
use Rattle.line_fetch.specs.declared.Row.{Row}
use Rattle.line_fetch.specs.Rows.{row_mask}
use Rattle.line_pixel.specs.Rows.{row_stack}
use Rattle.paint_coat.specs.Coat.{Coated}
use Rattle.paint_image.specs.Image.{image_from}
use Rattle.paint_layer.specs.Layer.{agreed}

unfoldable pub step_four : List ℕ → Mask → List ℕ → List ℕ → List ℕ
step_four un Zero up old = old
step_four un One up old = up
step_four un Hidden up old = agreed up un old

unfoldable pub stepping : List ℕ → List ℕ → List ℕ → Row → Row → ℕ → List ℕ → List ℕ
unfolding step_four
stepping un s d m r x old = step_four un (row_mask d m (record { 0 = x })) (image_from un s d r x) old

unfoldable pub decided : Colour → List ℕ → List ℕ → List ℕ → ℕ → ℕ → List ℕ → List ℕ
decided u s d ns n x old = four_of u (decide (row_stack s d ns (record { 0 = x })) n)

pub record Lowest (u : Colour) (s d ns : List ℕ) (pairs a b : ℕ) (l : List ℕ) (j : ℕ) (e : List ℕ) : Type 0 where
  pub most : j ≤ pairs
  pub done : Coated (decided u s d ns j) l a b e
