-- One pair over a part of a row.
--
--   words_from row a x    the pixels of a row that starts at pixel a
--   mask_at d m x         the sample of a mask of row m at pixel x of its area
--   same_four v w         two pixels have the same four octets
--   agreed up un old     what the two pixels `old` and `up` agree on, or the unseen one
--   agrees up un         what stood there, where `up` has the same four octets, and else the unseen pixel
--   Ruled f up post x y   of the pixels x up to y, what a rule makes of one that stands there and of that which `up` shows there is what f makes of it
--   Span d r x y         the layer has a sample of three octets at each of the pixels x up to y, and another octet behind the last
--   Dark r x y           it was not read, and has them in its area
use Rattle.std.specs.Prelude.{ℕ, ◌+◌, ◌-◌, ◌*◌, ◌/◌, ◌<◌, ◌≤◌, ◌≡◌, Bool, ◌&&◌, cond, List, length, get_or, eqb}
use Rattle.line_fetch.specs.declared.Row.{Row}
use Rattle.paint_words.specs.Words.{four_from, octets_of}

unfoldable pub words_from : List ℕ → ℕ → ℕ → List ℕ
words_from row a x = four_from row ((x - a) * 4)

unfoldable pub mask_at : List ℕ → Row → ℕ → ℕ
mask_at d m x = get_or d (m.at + (x - m.from.0) / m.ratio) 0

unfoldable pub same_four : List ℕ → List ℕ → Bool
same_four v w =
    eqb (get_or v 0 0) (get_or w 0 0) && eqb (get_or v 1 0) (get_or w 1 0) && eqb (get_or v 2 0) (get_or w 2 0) && eqb (get_or v 3 0) (get_or w 3 0)

unfoldable pub agreed : List ℕ → List ℕ → List ℕ → List ℕ
agreed up un old = cond (same_four old up) up un

unfoldable pub agrees : (ℕ → List ℕ) → List ℕ → ℕ → List ℕ → List ℕ
agrees up un x old = agreed (up x) un old

abbrev pub Ruled : (ℕ → List ℕ → List ℕ) → (ℕ → List ℕ) → (ℕ → ℕ → ℕ → ℕ → Type 0) → ℕ → ℕ → Type 0
Ruled f up post x y = (i w v k : ℕ) → i < y - x → octets_of v ≡ up (x + i) → post i w v k → octets_of k ≡ f (x + i) (octets_of w)

pub record Span (d : List ℕ) (r : Row) (x y : ℕ) : Type 0 where
  pub three : r.read ≡ 3
  pub single : r.ratio ≡ 1
  pub from : r.from.0 ≤ x
  pub to : y ≤ r.to.0
  pub more : r.at + (y - r.from.0) * 3 + 1 ≤ length d

pub record Dark (r : Row) (x y : ℕ) : Type 0 where
  pub unread : r.read ≡ 0
  pub from : r.from.0 ≤ x
  pub to : y ≤ r.to.0
