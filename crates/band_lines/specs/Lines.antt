-- The lines of a stripe that is to be shown, one behind the other. Places are pixels of the band.
--
--   band_four u v width p          the four octets of pixel p of a band so wide, u being the unseen colour
--   Laned v ns                    the numbers are the lanes of the scene's layers
--   LinesFit v width room         the stripe is to be shown, is so wide, and all its lines fit into a buffer of so many octets
--   SomeLinesFit                  the same of some plane list that has these lanes; line y is one of them, and its rows fit into so many numbers
--   SomePut                       r lines from y on are put at their place, at least one: those of whatever plane list has these lanes
use Rattle.std.specs.Prelude.{ℕ, ◌+◌, ◌*◌, ◌/◌, ◌%◌, ◌≤◌, ◌<◌, ◌≡◌, List, length}
use Rattle.sheet_rules.specs.declared.Colour.{Colour}
use Rattle.sheet_rules.specs.declared.Extent.{Extent}
use Rattle.pixel_rules.specs.Samples.{Scene, width_of}
use Rattle.pixel_rules.specs.Decide.{pixel_at}
use Rattle.picture_rules.specs.Line.{four_of}
use Rattle.band_rules.specs.Band.{band_size}
use Rattle.line_fetch.specs.Rows.{row_size}
use Rattle.line_planes.specs.declared.Listing.{Listing}
use Rattle.line_lanes.specs.Lanes.{lane_at, lane_of, LanesFit}
use Rattle.line_compose.specs.Composing.{scene_from, Showable}
use Rattle.paint_coat.specs.Coat.{Coated, over}

unfoldable pub band_four : Colour → Scene → ℕ → ℕ → List ℕ
band_four u v width p = four_of u (pixel_at v (record { 0 = p % width }) (record { 0 = p / width }))

pub record Laned (v : Scene) (ns : List ℕ) : Type 0 where
  pub fit : LanesFit ns v.extent.layers
  pub each : (l : ℕ) → 1 ≤ l → l ≤ v.extent.layers → lane_at ns l ≡ lane_of v.sheet v.extent v.planes l

pub record LinesFit (v : Scene) (width room : ℕ) : Type 0 where
  pub shown : Showable v 0
  pub wide : width ≡ width_of v
  pub fits : band_size v ≤ room

pub record SomeLinesFit (s : List ℕ) (extent : Extent) (d ns : List ℕ) (y width room numbers : ℕ) : Type 0 where
  pub list : Listing
  pub lines : LinesFit (scene_from s extent list d) width room
  pub lanes : Laned (scene_from s extent list d) ns
  pub below : y < extent.height
  pub rows : extent.layers * row_size ≤ numbers

pub record SomePut (u : Colour) (s : List ℕ) (extent : Extent) (d ns : List ℕ) (y width : ℕ) (out : List ℕ) (r : ℕ) (e : List ℕ) : Type 0 where
  pub some : 1 ≤ r
  pub most : y + r ≤ extent.height
  pub long : length e ≡ length out
  pub put : (list : Listing) → LinesFit (scene_from s extent list d) width (length out) → Laned (scene_from s extent list d) ns
      → Coated (over (band_four u (scene_from s extent list d) width)) out (y * width) ((y + r) * width) e
