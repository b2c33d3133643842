-- Octets marked under a mask, one a pixel.
--
--   Marked mask l p q v e   where the mask is not 0, the places p up to q hold v: the octets were l and are e
--   ever n               a mask that is n all along
--   bits_from m p i       a mask's samples from place i on, the first at p
--   Spread m i k n l e   n samples from place i on stand k times each
--   mask_bits d m a       the samples of a mask of row m, as they stand at the pixels from a on
--   SpreadAt             the octets of the mask's pixels from x up to y stand from place r on
--   MaskPart             the pixels from x up to y lie in the area of a mask that was read
use Rattle.std.specs.Prelude.{ℕ, ◌+◌, ◌-◌, ◌*◌, ◌/◌, ◌≤◌, ◌<◌, ◌≡◌, cond, List, length, get_or, eqb}
use Rattle.line_fetch.specs.declared.Row.{Row}
use Rattle.line_fetch.specs.Rows.{Turns}

pub record Marked (mask : ℕ → ℕ) (l : List ℕ) (p q v : ℕ) (e : List ℕ) : Type 0 where
  pub long : length e ≡ length l
  pub there : (i : ℕ) → p ≤ i → i < q → get_or e i 0 ≡ cond (eqb (mask i) 0) (get_or l i 0) v
  pub before : (i : ℕ) → i < p → get_or e i 0 ≡ get_or l i 0
  pub behind : (i : ℕ) → q ≤ i → get_or e i 0 ≡ get_or l i 0

unfoldable pub ever : ℕ → ℕ → ℕ
ever n i = n

unfoldable pub bits_from : List ℕ → ℕ → ℕ → ℕ → ℕ
bits_from m p i x = get_or m (i + (x - p)) 0

pub record Spread (m : List ℕ) (i k n : ℕ) (l e : List ℕ) : Type 0 where
  pub long : length e ≡ length l
  pub there : (x : ℕ) → x < n * k → get_or e x 0 ≡ get_or m (i + x / k) 0

unfoldable pub mask_bits : List ℕ → Row → ℕ → ℕ → ℕ
mask_bits d m a i = get_or d (m.at + (a + i - m.from.0) / m.ratio) 0

pub record MaskPart (d : List ℕ) (m : Row) (x y : ℕ) : Type 0 where
  pub some : x < y
  pub turns : Turns m
  pub few : m.ratio ≤ 12
  pub from : m.from.0 ≤ x
  pub to : y ≤ m.to.0
  pub near : y < 65536
  pub there : (z : ℕ) → m.from.0 ≤ z → z < m.to.0 → m.at + (z - m.from.0) / m.ratio < length d

pub record SpreadAt (d : List ℕ) (m : Row) (x y room r : ℕ) (e : List ℕ) : Type 0 where
  pub long : length e ≡ room
  pub fits : r + (y - x) ≤ room
  pub there : (i : ℕ) → i < y - x → get_or e (r + i) 0 ≡ get_or d (m.at + (x + i - m.from.0) / m.ratio) 0
