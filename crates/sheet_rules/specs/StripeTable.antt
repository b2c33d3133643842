-- The stripe table, and a stripe by itself.
--
--   extent_of k rs     the extent of stripe k: its first record, its layer count, its top and its height
--   with_record        an extent with one more record counted in
--   few s             the sheet's first 960 records: of a good sheet all
--   find_stripe s k    stripe k of a sheet; none where no record has its number
--   layer_record       the record of a layer of a stripe; main_res: the main resolution, that of layer 2
--   find_layer e l     layer l of a stripe: its record's number
--   entering          the judge's state where stripe k begins, with so much height left, on a page of this width and resolution
use Rattle.std.specs.Prelude.{ℕ, zero, suc, ◌+◌, ◌-◌, ◌/◌, min, false, ◌&&◌, cond, List, length, leb, ltb, eqb, Option, Some, None}
use Rattle.octets.specs.Entries.{entries_from}
use Rattle.sheet_rules.specs.declared.Record.{Record}
use Rattle.sheet_rules.specs.declared.State.{State}
use Rattle.sheet_rules.specs.declared.Extent.{Extent}
use Rattle.sheet_rules.specs.Record.{record_size, record_at, records_from, sum_of, height_in, most_records}
use Rattle.laws.specs.Tests.{only}
use Rattle.sheet_rules.specs.Judge.{begin}

-- a stripe's top is the sum of the heights before it
unfoldable pub extent_of : ℕ → List Record → Extent
unfolding sum_of
extent_of k rs =
    record {
      first = sum_of (λ (r : Record). only (ltb r.stripe k) 1) rs;
      layers = sum_of (λ (r : Record). only (eqb r.stripe k) 1) rs;
      top = sum_of (λ (r : Record). only (ltb r.stripe k) (height_in r)) rs;
      height = sum_of (λ (r : Record). only (eqb r.stripe k) (height_in r)) rs;
    }

-- the extent with one more record counted in
unfoldable pub with_record : ℕ → Extent → Record → Extent
with_record k extent r =
    record {
      first = extent.first + only (ltb r.stripe k) 1;
      layers = extent.layers + only (eqb r.stripe k) 1;
      top = extent.top + only (ltb r.stripe k) (height_in r);
      height = extent.height + only (eqb r.stripe k) (height_in r);
    }

unfoldable pub few : List ℕ → List Record
unfolding entries_from
few s = records_from s (min (length s / record_size) most_records) 0

unfoldable pub found_extent : Extent → Option Extent
found_extent extent = cond (eqb extent.layers 0) None (Some extent)

unfoldable pub find_stripe : List ℕ → ℕ → Option Extent
unfolding found_extent extent_of few
find_stripe s k = found_extent (extent_of k (few s))

-- layer 1 has the stripe's first record
unfoldable pub layer_record : List ℕ → Extent → ℕ → Record
layer_record s extent l = record_at s (extent.first + (l - 1))

abbrev pub main_res : List ℕ → Extent → ℕ
main_res s extent = (layer_record s extent 2).res

unfoldable pub find_layer : Extent → ℕ → Option ℕ
find_layer extent l = cond (leb 1 l && leb l extent.layers) (Some (extent.first + (l - 1))) None

-- stripe 0 begins as the sheet does
unfoldable pub entering : ℕ → ℕ → ℕ → ℕ → State
entering zero left width main = begin
entering (suc k) left width main =
    record { stripe = k; layer = 3; coded1 = false; coded2 = false; res1 = 0; main = main; width = width; left = left }
