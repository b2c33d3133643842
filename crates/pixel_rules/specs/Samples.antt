-- The sample of each layer at a place: a known colour or bit, or not known (01, "Colour of a pixel").
--
--   Scene           what a line is composed from: a sheet, a stripe of it, the entries of a plane list, and the sample buffer
--   record_of v l    the record of layer l
--   main_of v        the main resolution, that of layer 2
--   width_of v       the page's width, that of layer 2
--   pairs_of v       the pairs of a stripe of N layers
--   depth r         octets a sample: one in a mask and in a grey layer, three in any other image layer
--   plane_span r     octets of all samples of a layer
--   index_of         a sample's number in its layer, row by row
--   grey_of v        the colour of a grey layer's octet
--   colour_in n d p  the colour of the sample of n octets at a place
--   bit_of           a mask octet's value: 0 is 0, all else 1
--   virtual v l     what an uncoded mask gives
--   mask_at          the sample of a mask at a place; image_at: of an image layer
use Rattle.std.specs.Prelude.{ℕ, ◌+◌, ◌*◌, ◌/◌, ◌%◌, ◌&&◌, ◌||◌, cond, List, get_or, eqb, Option, Some, None}
use Rattle.sheet_rules.specs.declared.Record.{Record}
use Rattle.sheet_rules.specs.declared.Extent.{Extent}
use Rattle.sheet_rules.specs.Record.{colour_at, is_grey}
use Rattle.sheet_rules.specs.StripeTable.{layer_record, main_res}
use Rattle.sheet_rules.specs.Judge.{coded}
use Rattle.pixel_rules.specs.declared.MainPos.{MainPos}
use Rattle.pixel_rules.specs.declared.Plane.{Plane}
use Rattle.sheet_rules.specs.declared.Colour.{Colour}
use Rattle.pixel_rules.specs.declared.Mask.{Mask}
use Rattle.pixel_rules.specs.declared.Mask.TheVariants.{Zero, One, Hidden}
use Rattle.pixel_rules.specs.Place.{inside, along_of, down_of}
use Rattle.pixel_rules.specs.Planes.{plane_start}

pub record Scene : Type 0 where
  pub sheet : List ℕ
  pub extent : Extent
  pub planes : List Plane
  pub samples : List ℕ

abbrev pub record_of : Scene → ℕ → Record
record_of v l = layer_record v.sheet v.extent l

abbrev pub main_of : Scene → ℕ
main_of v = main_res v.sheet v.extent

abbrev pub width_of : Scene → ℕ
width_of v = (record_of v 2).width

-- N is odd: layer 1 and the pairs above it
abbrev pub pairs_of : Scene → ℕ
pairs_of v = v.extent.layers / 2

abbrev pub depth : Record → ℕ
depth r = cond (eqb (r.layer % 2) 0 || is_grey r) 1 3

unfoldable pub plane_span : Record → ℕ
plane_span r = r.width * r.height * depth r

-- row by row
unfoldable pub index_of : ℕ → Record → MainPos → MainPos → ℕ
index_of main r x y = (down_of main r y).0 * r.width + (along_of main r x).0

unfoldable pub bit_of : ℕ → Mask
bit_of v = cond (eqb v 0) Zero One

abbrev pub base_of : Record → Colour
base_of r = record { c0 = r.base0; c1 = r.base1; c2 = r.base2 }

-- an uncoded mask gives 0, but an uncoded layer 2 gives 1 all over a stripe whose layer 3 is coded
unfoldable pub virtual : Scene → ℕ → Mask
virtual v l = cond (eqb l 2 && coded (record_of v 3)) One Zero

-- lightness alone: 128 and 96 are the codes of a and b where there is no colour (02, 2026-07)
abbrev pub grey_of : ℕ → Colour
grey_of v = record { c0 = v; c1 = 128; c2 = 96 }

-- three octets are a colour, one is lightness
unfoldable pub colour_in : ℕ → List ℕ → ℕ → Colour
colour_in n d p = cond (eqb n 3) (colour_at d p) (grey_of (get_or d p 0))

unfoldable pub mask_read : List ℕ → Option ℕ → ℕ → Mask
unfolding bit_of
mask_read d (Some a) i = bit_of (get_or d (a + i) 0)
mask_read d None i = Hidden

-- sample i of those from a place on, n octets each
unfoldable pub image_read : List ℕ → ℕ → Option ℕ → ℕ → Option Colour
unfolding colour_in
image_read d n (Some a) i = Some (colour_in n d (a + i * n))
image_read d n None i = None

unfoldable pub mask_at : Scene → ℕ → MainPos → MainPos → Mask
unfolding virtual mask_read plane_start inside index_of
mask_at v l x y =
    cond (coded (record_of v l))
    (cond (inside (main_of v) (record_of v l) x y)
    (mask_read v.samples (plane_start v.planes l) (index_of (main_of v) (record_of v l) x y))
    Zero)
    (virtual v l)

unfoldable pub image_at : Scene → ℕ → MainPos → MainPos → Option Colour
unfolding image_read plane_start inside index_of
image_at v l x y =
    cond (coded (record_of v l) && inside (main_of v) (record_of v l) x y)
    (image_read v.samples (depth (record_of v l)) (plane_start v.planes l) (index_of (main_of v) (record_of v l) x y))
    (Some (base_of (record_of v l)))
