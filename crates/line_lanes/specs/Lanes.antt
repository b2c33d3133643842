-- A layer of a stripe in all its lines, worked out once a band, and its row in one line, worked out from that.
--
--   lane_size             how many numbers a lane has; lanes_size: those of 15 layers, as many as a stripe has at most
--   lane_at ns l          the lane of layer l among the lanes' numbers
--   lane_numbers          the numbers of a lane
--   bottom_of r q         behind the last line that crosses the layer of the record r, of samples of q main pixels each
--   read_of r p           the octets a sample, if it was read; else 0
--   first_of p            where the samples start, if they were read; else 0
--   lane_by               the lane of a record, where its samples start and what the layer gives outside its area being known
--   lane_of s extent ps l    the lane of layer l
--   lanes_of              the numbers of the lanes of layers 1 to n, one after the other
--   crosses w y          line y crosses the lane
--   row_from w y          the row in line y of the layer that has the lane w
--   rows_from ns y n      the numbers of the rows of layers 1 to n in line y, from the lanes' numbers
--   LaneFits             a lane's numbers are small enough to work out a row; LanesFit: n lanes are there, and each is so
use Rattle.std.specs.Prelude.{ℕ, ◌+◌, ◌-◌, ◌*◌, ◌≤◌, ◌<◌, ◌≡◌, Bool, ◌&&◌, cond, List, [], ◌∷◌, length, get_or, leb, ltb, Option, Some, None}
use Rattle.octets.specs.Entries.{entries_from, joined}
use Rattle.sheet_rules.specs.StripeTable.{layer_record, main_res}
use Rattle.sheet_rules.specs.declared.Record.{Record}
use Rattle.sheet_rules.specs.declared.Extent.{Extent}
use Rattle.sheet_rules.specs.Judge.{coded}
use Rattle.pixel_rules.specs.declared.MainPos.{MainPos}
use Rattle.pixel_rules.specs.declared.Plane.{Plane}
use Rattle.pixel_rules.specs.Place.{ratio, left_of, top_of, area_end, scale}
use Rattle.pixel_rules.specs.Planes.{plane_start}
use Rattle.pixel_rules.specs.Samples.{depth}
use Rattle.line_sample.specs.Factor.{factor_of}
use Rattle.line_fetch.specs.declared.Row.{Row}
use Rattle.line_fetch.specs.Rows.{numbers_of}
use Rattle.line_rows.specs.Rows.{row_out, other_of}
use Rattle.line_lanes.specs.declared.Lane.{Lane}

abbrev pub lane_size : ℕ
lane_size = 10

abbrev pub lanes_size : ℕ
lanes_size = 15 * lane_size

-- layer 1 has the first lane
unfoldable pub lane_at : List ℕ → ℕ → Lane
lane_at ns l =
    record {
      from = record { 0 = get_or ns ((l - 1) * lane_size) 0 };
      to = record { 0 = get_or ns ((l - 1) * lane_size + 1) 0 };
      factor = get_or ns ((l - 1) * lane_size + 2) 0;
      read = get_or ns ((l - 1) * lane_size + 3) 0;
      start = get_or ns ((l - 1) * lane_size + 4) 0;
      other = get_or ns ((l - 1) * lane_size + 5) 0;
      ratio = get_or ns ((l - 1) * lane_size + 6) 0;
      top = record { 0 = get_or ns ((l - 1) * lane_size + 7) 0 };
      bottom = record { 0 = get_or ns ((l - 1) * lane_size + 8) 0 };
      step = get_or ns ((l - 1) * lane_size + 9) 0;
    }

abbrev pub lane_numbers : Lane → List ℕ
lane_numbers w = w.from.0 ∷ w.to.0 ∷ w.factor ∷ w.read ∷ w.start ∷ w.other ∷ w.ratio ∷ w.top.0 ∷ w.bottom.0 ∷ w.step ∷ []

-- no line is above 0: none crosses a layer that is not coded
unfoldable pub bottom_of : Record → ℕ → MainPos
bottom_of r q = cond (coded r) (area_end (top_of r) r.height q) (record { 0 = 0 })

unfoldable pub read_of : Record → Option ℕ → ℕ
read_of r None = 0
read_of r (Some a) = depth r

unfoldable pub first_of : Option ℕ → ℕ
first_of None = 0
first_of (Some a) = a

-- a layer that was not read steps by 0 octets: its rows start at 0
unfoldable pub lane_by : Record → ℕ → Option ℕ → ℕ → Lane
unfolding bottom_of read_of first_of
lane_by r q p other =
    record {
      from = left_of r;
      to = area_end (left_of r) r.width q;
      factor = factor_of q;
      read = read_of r p;
      start = first_of p;
      other = other;
      ratio = q;
      top = top_of r;
      bottom = bottom_of r q;
      step = r.width * read_of r p;
    }

unfoldable pub lane_of : List ℕ → Extent → List Plane → ℕ → Lane
unfolding lane_by other_of
lane_of s extent ps l =
    lane_by (layer_record s extent l) (ratio (main_res s extent) (layer_record s extent l)) (plane_start ps l)
    (other_of (coded (layer_record s extent 3)) (layer_record s extent l) (extent.first + (l - 1)) l)

abbrev pub lanes_of : List ℕ → Extent → List Plane → ℕ → List ℕ
lanes_of s extent ps n = joined lane_numbers (entries_from (lane_of s extent ps) n 1)

abbrev pub crosses : Lane → MainPos → Bool
crosses w y = leb w.top.0 y.0 && ltb y.0 w.bottom.0

unfoldable pub row_from : Lane → MainPos → Row
row_from w y =
    cond (crosses w y)
    (record {
      from = w.from;
      to = w.to;
      factor = w.factor;
      read = w.read;
      at = w.start + (scale w.ratio w.top y).0 * w.step;
      other = w.other;
      ratio = w.ratio;
    })
    (row_out w.other)

abbrev pub rows_from : List ℕ → MainPos → ℕ → List ℕ
rows_from ns y n = joined numbers_of (entries_from (λ (l : ℕ). row_from (lane_at ns l) y) n 1)

pub record LaneFits (w : Lane) : Type 0 where
  pub some : 0 < w.ratio
  pub small : w.ratio < 65536
  pub factor : w.factor ≡ factor_of w.ratio
  pub near : w.bottom.0 ≤ w.top.0 + 65535 * w.ratio
  pub start : w.start < 4294967296
  pub step : w.step < 196608

pub record LanesFit (ns : List ℕ) (n : ℕ) : Type 0 where
  pub there : n * lane_size ≤ length ns
  pub each : (l : ℕ) → 1 ≤ l → l ≤ n → LaneFits (lane_at ns l)
