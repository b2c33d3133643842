-- A layer of a stripe in one line of the picture, worked out once a line.
--
--   row_size          how many numbers a row has; rows_size: those of 15 layers, as many as a stripe has at most
--   row_at ns l       the row of layer l among the rows' numbers
--   numbers_of        the numbers of a row
--   across r x       the place lies in the row's main pixels
--   row_mask          a mask's sample in its row; row_image: that of an image layer, whose base colour stands in the sheet
--   Turns            the row's two numbers for the scaling step belong together
--   MaskFits         the samples that the row of a mask names are in the buffer; ImageFits: the same of an image layer, and its base colour in the sheet
use Rattle.std.specs.Prelude.{ℕ, ◌+◌, ◌-◌, ◌*◌, ◌≤◌, ◌<◌, ◌≡◌, ◌≢◌, Bool, ◌&&◌, cond, List, [], ◌∷◌, length, get_or, eqb, leb, ltb, Option, Some, None}
use Rattle.pixel_rules.specs.declared.MainPos.{MainPos}
use Rattle.sheet_rules.specs.declared.Colour.{Colour}
use Rattle.pixel_rules.specs.declared.Mask.{Mask}
use Rattle.pixel_rules.specs.declared.Mask.TheVariants.{Hidden}
use Rattle.pixel_rules.specs.Place.{scale}
use Rattle.pixel_rules.specs.Samples.{bit_of, colour_in}
use Rattle.sheet_rules.specs.Record.{colour_at}
use Rattle.line_sample.specs.Factor.{factor_of}
use Rattle.line_fetch.specs.declared.Row.{Row}

abbrev pub row_size : ℕ
row_size = 7

abbrev pub rows_size : ℕ
rows_size = 15 * row_size

-- layer 1 has the first row
unfoldable pub row_at : List ℕ → ℕ → Row
row_at ns l =
    record {
      from = record { 0 = get_or ns ((l - 1) * row_size) 0 };
      to = record { 0 = get_or ns ((l - 1) * row_size + 1) 0 };
      factor = get_or ns ((l - 1) * row_size + 2) 0;
      read = get_or ns ((l - 1) * row_size + 3) 0;
      at = get_or ns ((l - 1) * row_size + 4) 0;
      other = get_or ns ((l - 1) * row_size + 5) 0;
      ratio = get_or ns ((l - 1) * row_size + 6) 0;
    }

abbrev pub numbers_of : Row → List ℕ
numbers_of r = r.from.0 ∷ r.to.0 ∷ r.factor ∷ r.read ∷ r.at ∷ r.other ∷ r.ratio ∷ []

abbrev pub across : Row → MainPos → Bool
across r x = leb r.from.0 x.0 && ltb x.0 r.to.0

unfoldable pub row_mask : List ℕ → Row → MainPos → Mask
row_mask d r x =
    cond (across r x)
    (cond (eqb r.read 0) Hidden (bit_of (get_or d (r.at + (scale r.ratio r.from x).0) 0)))
    (bit_of r.other)

unfoldable pub row_image : List ℕ → List ℕ → Row → MainPos → Option Colour
unfolding colour_in
row_image s d r x =
    cond (across r x)
    (cond (eqb r.read 0) None (Some (colour_in r.read d (r.at + (scale r.ratio r.from x).0 * r.read))))
    (Some (colour_at s r.other))

-- its factor divides by its ratio
pub record Turns (r : Row) : Type 0 where
  pub some : 0 < r.ratio
  pub small : r.ratio < 65536
  pub factor : r.factor ≡ factor_of r.ratio

pub record MaskFits (d : List ℕ) (r : Row) : Type 0 where
  pub turns : Turns r
  pub there : (x : MainPos) → r.from.0 ≤ x.0 → x.0 < r.to.0 → r.read ≢ 0 → r.at + (scale r.ratio r.from x).0 < length d

pub record ImageFits (s d : List ℕ) (r : Row) : Type 0 where
  pub turns : Turns r
  pub there : (x : MainPos) → r.from.0 ≤ x.0 → x.0 < r.to.0 → r.read ≢ 0 → r.at + (scale r.ratio r.from x).0 * r.read + r.read ≤ length d
  pub base : r.other + 3 ≤ length s
