-- One law for each way out of the functions of a layer's row: its premises are what is known there.
-- Assumes nothing.
use Prim.Native.Nat.{ℕ, ◌+◌, ◌-◌, ◌*◌, ◌≤◌, ◌<◌}
use native.Mathlib.Nat.{div-le_self}
use native.Mathlib.Omega.{arith}
use mathlib.Core.Path.{◌≡◌, refl}
use mathlib.Core.Logic.{◌≢◌}
use mathlib.Core.Bool.{Bool, true, false, ◌&&◌}
use mathlib.Core.List.{List}
use lib.ListN.{length, get_or}
use lib.Dec.{leb}
use borrow.Author.Tests.{eq-eqb, ne_eqb, lt-ltb, le-ltb, le-leb, lt-leb}
use borrow.Author.Rules.{rules}
use Rattle.pixel_rules.specs.declared.MainPos.{MainPos}
use Rattle.pixel_rules.specs.declared.SamplePos.{SamplePos}
use Rattle.sheet_rules.specs.declared.Colour.{Colour}
use Rattle.std.specs.Prelude.{Some, None}
use Rattle.pixel_rules.specs.declared.Mask.{Mask}
use Rattle.pixel_rules.specs.declared.Mask.TheVariants.{Hidden}
use Rattle.pixel_rules.specs.Place.{scale}
use Rattle.pixel_rules.specs.Samples.{bit_of, colour_in}
use Rattle.sheet_rules.specs.Record.{colour_at}
use Rattle.line_sample.specs.Factor.{Steps}
use Rattle.line_fetch.specs.declared.Row.{Row}
use Rattle.line_fetch.specs.Rows.{row_size, row_at, row_mask, row_image, Turns, MaskFits, ImageFits}

pub row_read : (ns : List ℕ) (l : ℕ)
    → record {
      from = record { 0 = get_or ns ((l - 1) * row_size) 0 };
      to = record { 0 = get_or ns ((l - 1) * row_size + 1) 0 };
      factor = get_or ns ((l - 1) * row_size + 2) 0;
      read = get_or ns ((l - 1) * row_size + 3) 0;
      at = get_or ns ((l - 1) * row_size + 4) 0;
      other = get_or ns ((l - 1) * row_size + 5) 0;
      ratio = get_or ns ((l - 1) * row_size + 6) 0;
    } ≡ row_at ns l
unfolding row_at
row_read ns l = refl

-- ---- the scaling step: a place is no nearer than its sample

row_steps : (r : Row) (x : MainPos) → Turns r → x.0 < 65536 → r.from.0 ≤ x.0 → Steps r.ratio r.factor r.from x
unfolding scale
row_steps r x t h a =
    let d = div-le_self (x.0 - r.from.0) r.ratio in
    record { some = t.some; small = t.small; factor = t.factor; past = a; near = omega arith }

-- ---- a mask's sample, an image layer's

and_no : (b : Bool) → b && false ≡ false
and_no true = refl
and_no false = refl

module _ (d : List ℕ) (r : Row) (x : MainPos) where
  pub mask_before : (m : Mask) → x.0 < r.from.0 → m ≡ bit_of r.other → m ≡ row_mask d r x
  unfolding row_mask
  mask_before m h e = simp (lt-leb r.from.0 x.0 h, e)

  pub mask_after : (m : Mask) → r.to.0 ≤ x.0 → m ≡ bit_of r.other → m ≡ row_mask d r x
  unfolding row_mask
  mask_after m h e = simp (le-ltb x.0 r.to.0 h, and_no (leb r.from.0 x.0), e)

  pub mask_unread : r.from.0 ≤ x.0 → x.0 < r.to.0 → r.read ≡ 0 → Hidden ≡ row_mask d r x
  unfolding row_mask
  mask_unread a b e = simp (le-leb r.from.0 x.0 a, lt-ltb x.0 r.to.0 b, eq-eqb r.read 0 e)

  pub mask_read_lem : (m : Mask) (p : SamplePos) → r.from.0 ≤ x.0 → x.0 < r.to.0 → r.read ≢ 0 → p ≡ scale r.ratio r.from x
      → m ≡ bit_of (get_or d (r.at + p.0) 0) → m ≡ row_mask d r x
  unfolding row_mask
  mask_read_lem m p a b n e f = simp (le-leb r.from.0 x.0 a, lt-ltb x.0 r.to.0 b, ne_eqb r.read 0 n, f, e)

  pub mask_steps : MaskFits d r → x.0 < 65536 → r.from.0 ≤ x.0 → Steps r.ratio r.factor r.from x
  mask_steps g h a = row_steps r x g.turns h a

  pub mask_there : (p : SamplePos) → MaskFits d r → r.from.0 ≤ x.0 → x.0 < r.to.0 → r.read ≢ 0 → p ≡ scale r.ratio r.from x → r.at + p.0 < length d
  mask_there p g a b n e = rw e (g.there x a b n)

module _ (s d : List ℕ) (r : Row) (x : MainPos) where
  pub image_before : (c : Colour) → x.0 < r.from.0 → c ≡ colour_at s r.other → Some c ≡ row_image s d r x
  unfolding row_image
  image_before c h e = simp (lt-leb r.from.0 x.0 h, e)

  pub image_after : (c : Colour) → r.to.0 ≤ x.0 → c ≡ colour_at s r.other → Some c ≡ row_image s d r x
  unfolding row_image
  image_after c h e = simp (le-ltb x.0 r.to.0 h, and_no (leb r.from.0 x.0), e)

  pub image_unread : r.from.0 ≤ x.0 → x.0 < r.to.0 → r.read ≡ 0 → None ≡ row_image s d r x
  unfolding row_image
  image_unread a b e = simp (le-leb r.from.0 x.0 a, lt-ltb x.0 r.to.0 b, eq-eqb r.read 0 e)

  pub image_read_lem : (c : Colour) (p : SamplePos) → r.from.0 ≤ x.0 → x.0 < r.to.0 → r.read ≢ 0 → p ≡ scale r.ratio r.from x
      → c ≡ colour_in r.read d (r.at + p.0 * r.read) → Some c ≡ row_image s d r x
  unfolding row_image
  image_read_lem c p a b n e f = simp (le-leb r.from.0 x.0 a, lt-ltb x.0 r.to.0 b, ne_eqb r.read 0 n, f, e)

  pub image_steps : ImageFits s d r → x.0 < 65536 → r.from.0 ≤ x.0 → Steps r.ratio r.factor r.from x
  image_steps g h a = row_steps r x g.turns h a

  pub image_there : (p : SamplePos) → ImageFits s d r → r.from.0 ≤ x.0 → x.0 < r.to.0 → r.read ≢ 0 → p ≡ scale r.ratio r.from x
      → r.at + p.0 * r.read + r.read ≤ length d
  image_there p g a b n e = rw e (g.there x a b n)

pub read_some : (n : ℕ) → n ≢ 0 → 0 < n
read_some n d = omega arith

pub ruleset rows = (rules, row_read)

pub ruleset fetching = (rules, mask_before, mask_after, mask_unread, mask_read_lem, mask_steps, mask_there, image_before, image_after, image_unread, image_read_lem, image_steps, image_there, read_some)
