-- The rows of a line, from the records of a stripe and its plane list.
--
--   row_in                a layer that the line crosses; row_out: one that it passes by, or that is not coded
--   row_by                the one or the other
--   other_of              what a layer gives outside its area
--   row_of s extent ps y l   the row of layer l in line y
--   rows_of               the numbers of the rows of layers 1 to n, one after the other
--   Covered              the line crosses the layer's area, of samples of q main pixels each
--   Layer                the same of one layer
--   Standing             what of an accepted sheet the rows need
use Rattle.std.specs.Prelude.{ℕ, ◌+◌, ◌-◌, ◌*◌, ◌/◌, ◌%◌, ◌≤◌, ◌<◌, ◌≡◌, Bool, true, ◌&&◌, not, cond, List, length, eqb, Option, Some, None}
use Rattle.octets.specs.Entries.{entries_from, joined}
use Rattle.sheet_rules.specs.StripeTable.{layer_record, main_res}
use Rattle.sheet_rules.specs.declared.Record.{Record}
use Rattle.sheet_rules.specs.declared.Extent.{Extent}
use Rattle.sheet_rules.specs.Record.{record_size}
use Rattle.sheet_rules.specs.Judge.{coded}
use Rattle.pixel_rules.specs.declared.MainPos.{MainPos}
use Rattle.pixel_rules.specs.declared.Plane.{Plane}
use Rattle.pixel_rules.specs.Place.{ratio, left_of, top_of, area_end, scale, covers}
use Rattle.pixel_rules.specs.Planes.{plane_start}
use Rattle.pixel_rules.specs.Samples.{depth}
use Rattle.line_sample.specs.Factor.{factor_of}
use Rattle.line_fetch.specs.declared.Row.{Row}
use Rattle.line_fetch.specs.Rows.{numbers_of}

abbrev pub row_out : ℕ → Row
row_out other = record { from = record { 0 = 0 }; to = record { 0 = 0 }; factor = factor_of 1; read = 0; at = 0; other = other; ratio = 1 }

unfoldable pub row_in : Record → ℕ → MainPos → Option ℕ → ℕ → Row
row_in r q y None other =
    record { from = left_of r; to = area_end (left_of r) r.width q; factor = factor_of q; read = 0; at = 0; other = other; ratio = q }
row_in r q y (Some a) other =
    record {
      from = left_of r;
      to = area_end (left_of r) r.width q;
      factor = factor_of q;
      read = depth r;
      at = a + (scale q (top_of r) y).0 * r.width * depth r;
      other = other;
      ratio = q;
    }

unfoldable pub row_by : Record → ℕ → MainPos → Option ℕ → ℕ → Row
unfolding row_in
row_by r q y p other = cond (coded r && covers (top_of r) r.height q y) (row_in r q y p other) (row_out other)

-- a base colour stands at octet 14 of its record
unfoldable pub other_of : Bool → Record → ℕ → ℕ → ℕ
other_of coded3 r i l =
    cond (eqb (l % 2) 0) (cond (not (coded r) && eqb l 2 && coded3) 1 0) (i * record_size + 14)

unfoldable pub row_of : List ℕ → Extent → List Plane → MainPos → ℕ → Row
unfolding row_by other_of
row_of s extent ps y l =
    row_by (layer_record s extent l) (ratio (main_res s extent) (layer_record s extent l)) y (plane_start ps l)
    (other_of (coded (layer_record s extent 3)) (layer_record s extent l) (extent.first + (l - 1)) l)

abbrev pub rows_of : List ℕ → Extent → List Plane → MainPos → ℕ → List ℕ
rows_of s extent ps y n = joined numbers_of (entries_from (row_of s extent ps y) n 1)

pub record Covered (r : Record) (q : ℕ) (y : MainPos) : Type 0 where
  pub some : 0 < q
  pub small : q < 65536
  pub high : r.height < 65536
  pub within : covers (top_of r) r.height q y ≡ true

-- layer l of a stripe whose main resolution is m; c: layer 3 is coded
pub record Layer (s : List ℕ) (extent : Extent) (m : ℕ) (c : Bool) (l : ℕ) : Type 0 where
  pub least : 1 ≤ l
  pub most : l ≤ 15
  pub place : extent.first + (l - 1) < length s / record_size
  pub res : 0 < (layer_record s extent l).res
  pub turns : 0 < ratio (main_res s extent) (layer_record s extent l)
  pub main : m ≡ main_res s extent
  pub third : c ≡ coded (layer_record s extent 3)

pub record Standing (s : List ℕ) (extent : Extent) : Type 0 where
  pub whole : extent.first + extent.layers ≤ length s / record_size
  pub three : 3 ≤ extent.layers
  pub fifteen : extent.layers ≤ 15
  pub res : (l : ℕ) → 1 ≤ l → l ≤ extent.layers → 0 < (layer_record s extent l).res
  pub turns : (l : ℕ) → 1 ≤ l → l ≤ extent.layers → 0 < ratio (main_res s extent) (layer_record s extent l)
