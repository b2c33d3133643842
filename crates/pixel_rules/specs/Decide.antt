-- The rule of a pair of layers, and a pixel decided from the lowest pair up (01, "Colour of a pixel"): the steps that find what Content.antt says is
-- seen.
--
--   same_colour    two colours are the same in all three octets
--   agree         what two samples agree on
--   pair_step      a mask and the image layer just above it, over what lies below
--   Stack         the samples at a pixel: image j is that of layer 2j + 1, and mask j, from 1 on, that of layer 2j
--   decide s n    after n pairs
--   stack_at       the samples of a scene at a place
--   pixel_at       the picture of a pixel
use Rattle.std.specs.Prelude.{ℕ, zero, suc, ◌+◌, ◌*◌, Bool, ◌&&◌, cond, eqb, Option, Some, None}
use Rattle.pixel_rules.specs.declared.MainPos.{MainPos}
use Rattle.sheet_rules.specs.declared.Colour.{Colour}
use Rattle.pixel_rules.specs.declared.Mask.{Mask}
use Rattle.pixel_rules.specs.declared.Mask.TheVariants.{Zero, One, Hidden}
use Rattle.pixel_rules.specs.Samples.{Scene, mask_at, image_at, pairs_of}

unfoldable pub same_colour : Colour → Colour → Bool
same_colour c d = eqb c.c0 d.c0 && eqb c.c1 d.c1 && eqb c.c2 d.c2

-- known only where both are known, and the same
unfoldable pub agree : Option Colour → Option Colour → Option Colour
unfolding same_colour
agree (Some c) (Some d) = cond (same_colour c d) (Some c) None
agree (Some c) None = None
agree None up = None

-- mask 1 takes the layer just above, mask 0 keeps, and under a mask that is not known what both agree on stays
unfoldable pub pair_step : Mask → Option Colour → Option Colour → Option Colour
unfolding agree
pair_step Zero low up = low
pair_step One low up = up
pair_step Hidden low up = agree low up

pub record Stack : Type 0 where
  pub mask : ℕ → Mask
  pub image : ℕ → Option Colour

-- start with layer 1, then upward
unfoldable pub decide : Stack → ℕ → Option Colour
unfolding pair_step
decide s zero = s.image 0
decide s (suc j) = pair_step (s.mask (suc j)) (decide s j) (s.image (suc j))

abbrev pub stack_at : Scene → MainPos → MainPos → Stack
stack_at v x y = record { mask = λ j. mask_at v (j * 2) x y; image = λ j. image_at v (j * 2 + 1) x y }

unfoldable pub pixel_at : Scene → MainPos → MainPos → Option Colour
unfolding decide
pixel_at v x y = decide (stack_at v x y) (pairs_of v)
