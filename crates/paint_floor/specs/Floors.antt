-- The floors of the pixels of a part of a row, one octet each.
--
--   inside_bits           the samples of a mask in its area, as they stand at the pixels from a on: where it was not read, all or none
--   MarkOf r j a b v     v stands for pair j over a part: the dark only where its image layer is not read
--   Covers m r a b       the pair shows its image layer all over the part, whatever lies below
--   PlainRows ns pairs   a sample of any of the rows has at most 12 main pixels, and one octet or three
--   Sure s d ns f a n j sel   the floors of n pixels from a on, after j pairs
--   Starts s d ns pairs a b f   from pair f up all is looked at: it shows its image layer over the part
use Rattle.std.specs.Prelude.{ℕ, ◌+◌, ◌*◌, ◌≤◌, ◌<◌, ◌≡◌, ◌≢◌, cond, List, length, get_or, eqb}
use Rattle.pixel_rules.specs.Decide.{decide}
use Rattle.line_fetch.specs.declared.Row.{Row}
use Rattle.line_fetch.specs.Rows.{row_at}
use Rattle.line_pixel.specs.Rows.{row_stack}
use Rattle.paint_rules.specs.Floor.{dark, Settled}
use Rattle.paint_image.specs.Image.{Between, Plain}
use Rattle.paint_choice.specs.Choice.{mask_bits}

unfoldable pub inside_bits : List ℕ → Row → ℕ → ℕ → ℕ → ℕ
inside_bits d m v a i = cond (eqb m.read 0) (cond (eqb v dark) 1 0) (mask_bits d m a i)

pub record MarkOf (r : Row) (j a b v : ℕ) : Type 0 where
  pub same : v ≢ dark → v ≡ j
  pub unread : v ≡ dark → r.read ≡ 0
  pub between : v ≡ dark → Between r a b

pub data Covers (m r : Row) (a b : ℕ) : Type 0 where
  all_ones : m.other ≢ 0 → m.to.0 ≤ m.from.0 → Covers m r a b
  all_dark : m.read ≡ 0 → Between m a b → r.read ≡ 0 → Between r a b → Covers m r a b

pub record PlainRows (ns : List ℕ) (pairs : ℕ) : Type 0 where
  pub image : (j : ℕ) → j ≤ pairs → Plain (row_at ns (j * 2 + 1))
  pub mask : (j : ℕ) → 1 ≤ j → j ≤ pairs → Plain (row_at ns (j * 2))

pub record Sure (s d ns : List ℕ) (f a n j : ℕ) (sel : List ℕ) : Type 0 where
  pub room : n ≤ length sel
  pub held : (i : ℕ) → i < n → Settled (row_stack s d ns (record { 0 = a + i })) f (get_or sel i 0) j

pub record Starts (s d ns : List ℕ) (pairs a b f : ℕ) : Type 0 where
  pub most : f ≤ pairs
  pub shows : (x : ℕ) → a ≤ x → x < b → decide (row_stack s d ns (record { 0 = x })) f ≡ (row_stack s d ns (record { 0 = x })).image f
