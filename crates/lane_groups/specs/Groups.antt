-- Lines of a stripe that have the same rows but for that of layer 2, whose samples are a pixel each.
--
--   Same w y n             the lane has one row in n lines from y on
--   Fewer ns l y g r       r of the g lines from y on, in which layer l has one row, if it is not layer 2
--   Grouped ns n y most g  g lines from y on, at most so many, in each of which every layer but layer 2 has one row
--   Steady w y g width     the lane of a mask that was read, a pixel a sample, over all pixels of g lines from y on
use Rattle.std.specs.Prelude.{ℕ, ◌+◌, ◌≤◌, ◌<◌, ◌≡◌, ◌≢◌, List}
use Rattle.line_lanes.specs.declared.Lane.{Lane}
use Rattle.line_lanes.specs.Lanes.{lane_at, row_from}

pub record Same (w : Lane) (y n : ℕ) : Type 0 where
  pub some : 1 ≤ n
  pub row : (t : ℕ) → t < n → row_from w (record { 0 = y + t }) ≡ row_from w (record { 0 = y })

pub record Fewer (ns : List ℕ) (l y g r : ℕ) : Type 0 where
  pub some : 1 ≤ r
  pub most : r ≤ g
  pub row : l ≢ 2 → (t : ℕ) → t < r → row_from (lane_at ns l) (record { 0 = y + t }) ≡ row_from (lane_at ns l) (record { 0 = y })

pub record Grouped (ns : List ℕ) (n y most g : ℕ) : Type 0 where
  pub some : 1 ≤ g
  pub few : g ≤ most
  pub row : (l : ℕ) → 1 ≤ l → l ≤ n → l ≢ 2 → (t : ℕ) → t < g → row_from (lane_at ns l) (record { 0 = y + t }) ≡ row_from (lane_at ns l) (record { 0 = y })

pub record Steady (w : Lane) (y g width : ℕ) : Type 0 where
  pub read : w.read ≢ 0
  pub single : w.ratio ≡ 1
  pub from : w.from.0 ≡ 0
  pub to : width ≤ w.to.0
  pub top : w.top.0 ≤ y
  pub bottom : y + g ≤ w.bottom.0
