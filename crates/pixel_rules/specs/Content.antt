-- Possible contents of the layers that were not read, and what is seen whatever they hold (demand 3).
--
--   Content       a value for every sample of every layer of a stripe, each free of all others; the same for all pixels
--   CanHold r c   a layer of this record can hold this colour: a grey one shades of grey alone, any other three octets
--   Possible v w  each colour in it is one that its layer can hold
--   mask_under     a mask's value at a place: what was read, and where nothing was, the content's
--   image_under    an image layer's colour at a place, likewise
--   colour_from    start with layer 1; upward, mask 1 takes the layer just above, mask 0 keeps
--   colour_under   the colour of a pixel under a content
--   SeenAs        every possible content gives this colour at this place
use Rattle.std.specs.Prelude.{ℕ, zero, suc, ◌+◌, ◌*◌, ◌<◌, ◌≡◌, Bool, true, false, cond, Option, Some, None}
use Rattle.pixel_rules.specs.declared.MainPos.{MainPos}
use Rattle.pixel_rules.specs.declared.SamplePos.{SamplePos}
use Rattle.sheet_rules.specs.declared.Colour.{Colour}
use Rattle.sheet_rules.specs.declared.Record.{Record}
use Rattle.sheet_rules.specs.Record.{is_grey}
use Rattle.pixel_rules.specs.declared.Mask.{Mask}
use Rattle.pixel_rules.specs.declared.Mask.TheVariants.{Zero, One, Hidden}
use Rattle.pixel_rules.specs.Place.{along_of, down_of}
use Rattle.pixel_rules.specs.Samples.{Scene, record_of, main_of, grey_of, mask_at, image_at, pairs_of}

-- by layer, and by the sample's place along and down; true is 1
pub record Content : Type 0 where
  pub bit : ℕ → SamplePos → SamplePos → Bool
  pub colour : ℕ → SamplePos → SamplePos → Colour

pub record IsColour (c : Colour) : Type 0 where
  pub c0 : c.c0 < 256
  pub c1 : c.c1 < 256
  pub c2 : c.c2 < 256

-- the colours of a content are of this kind
abbrev pub Within : (ℕ → Colour → Type 0) → Content → Type 0
Within Can w = (l : ℕ) (i j : SamplePos) → Can l (w.colour l i j)

pub data CanHold (r : Record) : Colour → Type 0 where
  shade : {v : ℕ} → is_grey r ≡ true → v < 256 → CanHold r (grey_of v)
  three : {c : Colour} → is_grey r ≡ false → IsColour c → CanHold r c

abbrev pub Possible : Scene → Content → Type 0
Possible v w = Within (λ l c. CanHold (record_of v l) c) w

-- what is known stands; what is not known is as the content says
abbrev pub mask_with : Mask → Bool → Bool
mask_with Zero b = false
mask_with One b = true
mask_with Hidden b = b

abbrev pub image_with : Option Colour → Colour → Colour
image_with (Some c) d = c
image_with None d = d

abbrev pub mask_under : Scene → Content → ℕ → MainPos → MainPos → Bool
mask_under v w l x y =
    mask_with (mask_at v l x y) (w.bit l (along_of (main_of v) (record_of v l) x) (down_of (main_of v) (record_of v l) y))

abbrev pub image_under : Scene → Content → ℕ → MainPos → MainPos → Colour
image_under v w l x y =
    image_with (image_at v l x y) (w.colour l (along_of (main_of v) (record_of v l) x) (down_of (main_of v) (record_of v l) y))

unfoldable pub colour_from : (ℕ → Bool) → (ℕ → Colour) → ℕ → Colour
colour_from mask image zero = image 1
colour_from mask image (suc j) = cond (mask (suc j * 2)) (image (suc j * 2 + 1)) (colour_from mask image j)

unfoldable pub colour_under : Scene → Content → MainPos → MainPos → Colour
unfolding colour_from
colour_under v w x y = colour_from (λ l. mask_under v w l x y) (λ l. image_under v w l x y) (pairs_of v)

abbrev pub SeenAs : Scene → MainPos → MainPos → Colour → Type 0
SeenAs v x y c = (w : Content) → Possible v w → colour_under v w x y ≡ c
