-- Lines of a band that differ in layer 2 alone. A mask has two values: each pixel of such a line is that of the line in which layer 2 is 0 all along, or
-- that of the line in which it is 1. Places are pixels of the band.
--
--   bit_rows ns n          the rows, layer 2 giving n all along
--   row_four u s d ns pairs first p      the pixel p of a line that begins at `first`, by its rows
--   line_of, column_of      the line and the column of pixel p among lines that begin at `first`
--   bit_at d at step first width p       the sample of layer 2 there, its samples starting at `at` and each line `step` further on
--   group_four             the pixel there, by that sample
--   mixed_four             the same taken from a band whose first two lines have layer 2 all 0 and, up to column c, all 1: behind it both are alike
--   part_four              the same of one line
--   BothPainted           the first two lines of a group, so that they can be mixed: the band was l and is e
--   Tail ns pairs width c   from column c on some pair above pair 1 shows its image layer, whatever lies below
use Rattle.std.specs.Prelude.{ℕ, ◌+◌, ◌-◌, ◌*◌, ◌/◌, ◌%◌, ◌≤◌, ◌<◌, ◌≡◌, cond, List, length, get_or, eqb, ltb}
use Rattle.octets.specs.Octets.{put_at}
use Rattle.sheet_rules.specs.declared.Colour.{Colour}
use Rattle.pixel_rules.specs.Decide.{decide}
use Rattle.picture_rules.specs.Line.{four_of}
use Rattle.line_fetch.specs.Rows.{row_size, row_at, numbers_of}
use Rattle.line_pixel.specs.Rows.{row_stack}
use Rattle.line_rows.specs.Rows.{row_out}
use Rattle.paint_words.specs.Words.{four_from}
use Rattle.paint_floor.specs.Floors.{Covers}

abbrev pub bit_rows : List ℕ → ℕ → List ℕ
bit_rows ns n = put_at ns row_size (numbers_of (row_out n))

unfoldable pub row_four : Colour → List ℕ → List ℕ → List ℕ → ℕ → ℕ → ℕ → List ℕ
row_four u s d ns pairs first p = four_of u (decide (row_stack s d ns (record { 0 = p - first })) pairs)

abbrev pub line_of : ℕ → ℕ → ℕ → ℕ
line_of first width p = (p - first) / width

abbrev pub column_of : ℕ → ℕ → ℕ → ℕ
column_of first width p = (p - first) % width

abbrev pub bit_at : List ℕ → ℕ → ℕ → ℕ → ℕ → ℕ → ℕ
bit_at d at step first width p = get_or d (at + line_of first width p * step + column_of first width p) 0

unfoldable pub group_four : Colour → List ℕ → List ℕ → List ℕ → ℕ → ℕ → ℕ → ℕ → ℕ → ℕ → List ℕ
group_four u s d ns pairs at step first width p =
    cond (eqb (bit_at d at step first width p) 0)
    (four_of u (decide (row_stack s d (bit_rows ns 0) (record { 0 = column_of first width p })) pairs))
    (four_of u (decide (row_stack s d (bit_rows ns 1) (record { 0 = column_of first width p })) pairs))

unfoldable pub mixed_four : List ℕ → List ℕ → ℕ → ℕ → ℕ → ℕ → ℕ → ℕ → List ℕ
mixed_four l d at step first width c p =
    cond (ltb (column_of first width p) c)
    (cond (eqb (bit_at d at step first width p) 0) (four_from l ((first + column_of first width p) * 4)) (four_from l ((first + width + column_of first width p) * 4)))
    (four_from l ((first + column_of first width p) * 4))

-- pixel by pixel from `at` on, where the line begins, and m are its samples of layer 2
unfoldable pub part_four : List ℕ → List ℕ → ℕ → ℕ → ℕ → ℕ → ℕ → List ℕ
part_four l m first width c at p =
    cond (ltb (p - at) c) (cond (eqb (get_or m (p - at) 0) 0) (four_from l ((first + (p - at)) * 4)) (four_from l ((first + width + (p - at)) * 4))) (four_from l ((first + (p - at)) * 4))

pub data Tail (ns : List ℕ) (pairs width c : ℕ) : Type 0 where
  nothing : c ≡ width → Tail ns pairs width c
  covered : (j : ℕ) → 2 ≤ j → j ≤ pairs → Covers (row_at ns (j * 2)) (row_at ns (j * 2 + 1)) c width → Tail ns pairs width c

pub record BothPainted (u : Colour) (s d ns : List ℕ) (pairs first width c : ℕ) (l e : List ℕ) : Type 0 where
  pub long : length e ≡ length l
  pub low : (x : ℕ) → x < width → four_from e ((first + x) * 4) ≡ four_of u (decide (row_stack s d (bit_rows ns 0) (record { 0 = x })) pairs)
  pub up : (x : ℕ) → x < c → four_from e ((first + width + x) * 4) ≡ four_of u (decide (row_stack s d (bit_rows ns 1) (record { 0 = x })) pairs)
  pub before : (i : ℕ) → i < first * 4 → get_or e i 0 ≡ get_or l i 0
  pub behind : (i : ℕ) → (first + width + c) * 4 ≤ i → get_or e i 0 ≡ get_or l i 0
