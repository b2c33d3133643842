-- A part of a row of which nothing can be known.
--
--   Darkens m r a b      where nothing is known below, nothing is known above the pair either: its image layer was not read, or its mask is never 1
--   Lost s d ns n a b    nothing is known of the pixels a up to b after n pairs
use Rattle.std.specs.Prelude.{ℕ, ◌≤◌, ◌<◌, ◌≡◌, ◌⊎◌, List, None}
use Rattle.pixel_rules.specs.Decide.{decide}
use Rattle.line_fetch.specs.declared.Row.{Row}
use Rattle.line_pixel.specs.Rows.{row_stack}
use Rattle.paint_image.specs.Image.{Between}

pub data Darkens (m r : Row) (a b : ℕ) : Type 0 where
  image_unread : r.read ≡ 0 → Between r a b → Darkens m r a b
  never_one : m.other ≡ 0 → (m.read ≡ 0) ⊎ (m.to.0 ≤ m.from.0) → Darkens m r a b

pub record Lost (s d ns : List ℕ) (n a b : ℕ) : Type 0 where
  pub lost : (x : ℕ) → a ≤ x → x < b → decide (row_stack s d ns (record { 0 = x })) n ≡ None
