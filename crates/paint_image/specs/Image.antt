-- An image layer over a part of a row of pixels, as its row of samples says it.
--
--   shown_four un p      the four octets of a sample, `un` being those of an unseen pixel
--   image_from un s d r  what the layer of row r gives at pixel x
--   area_from d r        the same within its area, where it was read
--   moved t a f         what f gives from a on, at the pixels from t on
--   Plain r             a sample has at most 12 main pixels, and one octet or three
--   SampleAt r x i      pixel x lies in sample i
--   PartFits d r a b    the pixels a up to b lie in the area of a layer that was read
--   OneFits d r i a b   they lie in its sample i
--   WholeFits d r q n f   n samples from sample q on, which starts at pixel f, are there
--   Within x a b r      r is x brought between a and b
--   Between r a b       the pixels a up to b lie in the area; Beside: none of them does
use Rattle.std.specs.Prelude.{ℕ, ◌+◌, ◌-◌, ◌*◌, ◌/◌, ◌≤◌, ◌<◌, ◌≡◌, ◌≢◌, ◌⊎◌, List, [], ◌∷◌, length, Option, Some, None}
use Rattle.sheet_rules.specs.declared.Colour.{Colour}
use Rattle.line_fetch.specs.declared.Row.{Row}
use Rattle.line_fetch.specs.Rows.{row_image, Turns}
use Rattle.paint_coat.specs.Coat.{four_in}

unfoldable pub shown_four : List ℕ → Option Colour → List ℕ
shown_four un (Some c) = c.c0 ∷ c.c1 ∷ c.c2 ∷ 1 ∷ []
shown_four un None = un

unfoldable pub image_from : List ℕ → List ℕ → List ℕ → Row → ℕ → List ℕ
image_from un s d r x = shown_four un (row_image s d r (record { 0 = x }))

unfoldable pub area_from : List ℕ → Row → ℕ → List ℕ
area_from d r x = four_in r.read d (r.at + (x - r.from.0) / r.ratio * r.read)

unfoldable pub moved : ℕ → ℕ → (ℕ → List ℕ) → ℕ → List ℕ
moved t a f x = f (a + (x - t))

pub record Plain (r : Row) : Type 0 where
  pub few : r.ratio ≤ 12
  pub one : r.read ≢ 0 → r.read ≢ 3 → r.read ≡ 1

pub record SampleAt (r : Row) (x i : ℕ) : Type 0 where
  pub is : i ≡ (x - r.from.0) / r.ratio
  pub low : r.from.0 + i * r.ratio ≤ x
  pub high : x < r.from.0 + i * r.ratio + r.ratio

pub record PartFits (d : List ℕ) (r : Row) (a b : ℕ) : Type 0 where
  pub turns : Turns r
  pub plain : Plain r
  pub read : r.read ≢ 0
  pub from : r.from.0 ≤ a
  pub to : b ≤ r.to.0
  pub near : b < 65536
  pub there : (x : ℕ) → r.from.0 ≤ x → x < r.to.0 → r.at + (x - r.from.0) / r.ratio * r.read + r.read ≤ length d

pub record OneFits (d : List ℕ) (r : Row) (i a b : ℕ) : Type 0 where
  pub some : a ≤ b
  pub low : r.from.0 + i * r.ratio ≤ a
  pub high : b ≤ r.from.0 + i * r.ratio + r.ratio
  pub kind : r.read ≢ 3 → r.read ≡ 1
  pub there : r.at + i * r.read + r.read ≤ length d

pub record WholeFits (d : List ℕ) (r : Row) (q n f : ℕ) : Type 0 where
  pub some : 0 < r.ratio
  pub kind : r.read ≢ 3 → r.read ≡ 1
  pub start : f ≡ r.from.0 + q * r.ratio
  pub there : 0 < n → r.at + (q + n) * r.read ≤ length d

pub record Within (x a b r : ℕ) : Type 0 where
  pub low : a ≤ r
  pub high : r ≤ b
  pub before : (y : ℕ) → a ≤ y → y < r → y < x
  pub behind : (y : ℕ) → r ≤ y → y < b → x ≤ y

pub record Between (r : Row) (a b : ℕ) : Type 0 where
  pub from : (x : ℕ) → a ≤ x → x < b → r.from.0 ≤ x
  pub to : (x : ℕ) → a ≤ x → x < b → x < r.to.0

pub record Beside (r : Row) (a b : ℕ) : Type 0 where
  pub out : (x : ℕ) → a ≤ x → x < b → (x < r.from.0) ⊎ (r.to.0 ≤ x)
