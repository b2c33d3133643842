-- The floors of a part of a row shown: each pixel gets what its floor's image layer gives there.
--
--   floor_from un s d ns c   what floor c gives at pixel x
--   shows                the floor of each pixel, the floors starting at pixel a
--   picking              where the floor is c, the pixel of a row; the row starts at pixel t, and so do the floors from place i on
--   picking_floor         where the floor is c, what it gives
--   picking_other         the same, if c is not v
--   is_floor v, is_lit     the floor is v; it is in the table with its own places
--   Begun                the pixels whose floors are some that are told, or the dark, are shown
--   Least sel p q f      the floors p up to q are f at least, or the dark
--   Paired sel p q pairs  the floors p up to q are pairs, or the dark
--   Alike v s p q        the octets p up to q are v
--   Absent v s p q       none of them is
--   Runs v s p q r       they are v up to r at least
use Rattle.std.specs.Prelude.{ℕ, ◌+◌, ◌-◌, ◌*◌, ◌≤◌, ◌<◌, ◌≡◌, ◌≢◌, Bool, true, cond, List, get_or, eqb}
use Rattle.line_pixel.specs.Rows.{row_stack}
use Rattle.paint_rules.specs.Floor.{dark, chosen}
use Rattle.paint_words.specs.Words.{four_from}
use Rattle.paint_image.specs.Image.{shown_four}

unfoldable pub floor_from : List ℕ → List ℕ → List ℕ → List ℕ → ℕ → ℕ → List ℕ
floor_from un s d ns c x = shown_four un (chosen (row_stack s d ns (record { 0 = x })) c)

unfoldable pub shows : List ℕ → List ℕ → List ℕ → List ℕ → List ℕ → ℕ → ℕ → List ℕ → List ℕ
shows un s d ns sel a x old = floor_from un s d ns (get_or sel (x - a) 0) x

unfoldable pub picking : List ℕ → ℕ → ℕ → List ℕ → ℕ → ℕ → List ℕ → List ℕ
picking sel i c row t x old = cond (eqb (get_or sel (i + (x - t)) 0) c) (four_from row ((x - t) * 4)) old

unfoldable pub picking_floor : List ℕ → List ℕ → List ℕ → List ℕ → List ℕ → ℕ → ℕ → ℕ → List ℕ → List ℕ
picking_floor un s d ns sel a c x old = cond (eqb (get_or sel (x - a) 0) c) (floor_from un s d ns c x) old

-- not where it is v, which is shown already
unfoldable pub picking_other : List ℕ → List ℕ → List ℕ → List ℕ → List ℕ → ℕ → ℕ → ℕ → ℕ → List ℕ → List ℕ
picking_other un s d ns sel a v c x old = cond (eqb c v) old (picking_floor un s d ns sel a c x old)

pub record Paired (sel : List ℕ) (p q pairs : ℕ) : Type 0 where
  pub few : (i : ℕ) → p ≤ i → i < q → get_or sel i 0 ≢ dark → get_or sel i 0 ≤ pairs

pub record Alike (v : ℕ) (s : List ℕ) (p q : ℕ) : Type 0 where
  pub there : (i : ℕ) → p ≤ i → i < q → get_or s i 0 ≡ v

pub record Absent (v : ℕ) (s : List ℕ) (p q : ℕ) : Type 0 where
  pub none : (i : ℕ) → p ≤ i → i < q → get_or s i 0 ≢ v

unfoldable pub is_floor : ℕ → ℕ → Bool
is_floor v c = eqb c v

unfoldable pub is_lit : List ℕ → ℕ → Bool
is_lit lit c = eqb (get_or lit c 0) 1

pub record Least (sel : List ℕ) (p q f : ℕ) : Type 0 where
  pub least : (i : ℕ) → p ≤ i → i < q → get_or sel i 0 ≢ dark → f ≤ get_or sel i 0

pub record Begun (un s d ns sel : List ℕ) (a x e : ℕ) (told : ℕ → Bool) (out : List ℕ) : Type 0 where
  pub same : (y : ℕ) → x ≤ y → y < e → told (get_or sel (y - a) 0) ≡ true → four_from out (y * 4) ≡ floor_from un s d ns (get_or sel (y - a) 0) y
  pub dark : (y : ℕ) → x ≤ y → y < e → get_or sel (y - a) 0 ≡ dark → four_from out (y * 4) ≡ floor_from un s d ns (get_or sel (y - a) 0) y

pub record Runs (v : ℕ) (s : List ℕ) (p q r : ℕ) : Type 0 where
  pub from : p ≤ r
  pub upto : r ≤ q
  pub alike : Alike v s p r
