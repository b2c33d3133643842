-- The rows of a stripe's layers in one line, taken pair by pair: the mask of pair j, from 1 on, is layer 2j, and its image layer 2j + 1.
--
--   row_masks         the masks at a pixel
--   row_stack         the samples at a pixel
--   MasksFit         the rows of so many masks fit
--   PairFits         the rows of a pair fit
--   RowsFit          all rows of so many pairs fit
use Rattle.std.specs.Prelude.{ℕ, ◌+◌, ◌*◌, ◌≤◌, List, length}
use Rattle.pixel_rules.specs.declared.MainPos.{MainPos}
use Rattle.pixel_rules.specs.declared.Mask.{Mask}
use Rattle.pixel_rules.specs.Decide.{Stack}
use Rattle.line_fetch.specs.Rows.{row_size, row_at, row_mask, row_image, MaskFits, ImageFits}

abbrev pub row_masks : List ℕ → List ℕ → MainPos → ℕ → Mask
row_masks d ns x j = row_mask d (row_at ns (j * 2)) x

abbrev pub row_stack : List ℕ → List ℕ → List ℕ → MainPos → Stack
row_stack s d ns x =
    record { mask = row_masks d ns x; image = λ j. row_image s d (row_at ns (j * 2 + 1)) x }

pub record MasksFit (d ns : List ℕ) (n : ℕ) : Type 0 where
  pub room : n * 2 * row_size ≤ length ns
  pub mask : (j : ℕ) → 1 ≤ j → j ≤ n → MaskFits d (row_at ns (j * 2))

pub record PairFits (s d ns : List ℕ) (j : ℕ) : Type 0 where
  pub some : 1 ≤ j
  pub room : (j * 2 + 1) * row_size ≤ length ns
  pub mask : MaskFits d (row_at ns (j * 2))
  pub image : ImageFits s d (row_at ns (j * 2 + 1))

pub record RowsFit (s d ns : List ℕ) (pairs : ℕ) : Type 0 where
  pub room : row_size ≤ length ns
  pub image : ImageFits s d (row_at ns 1)
  pub pair : (j : ℕ) → 1 ≤ j → j ≤ pairs → PairFits s d ns j
