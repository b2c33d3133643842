-- Lines of a band that differ by the bits of one mask, made of two that have only 0 and only 1 there. All places are pixels of the band.
--
--   mixed_from l m a b t      pixel by pixel from t on: that of the line at a in l where the mask is 0, and else that of the line at b
--   copied_from l a t         pixel by pixel from t on: that of the line at a in l
--   TwoMixed m k a b n l e   the same of the two lines themselves: the one at a by the mask m, the one at b by k; the band was l and is e
--   Stepped up t x n l r e   of the n pixels from t on those from the x-th up to the r-th are laid, one at least
--   line_from l i             the line at i in l, pixel by pixel
--   chosen_from l m a b       that of the line at a in l where the mask is 0, and else that of the line at b
--   TwoLaid lo hi a b p q    of the two lines at a and at b the pixels from the p-th up to the q-th are laid, those of lo and those of hi
--   TwoPart                  what TwoMixed says, of the pixels from the p-th up to the q-th
--   TwoStepped               such a part from the x-th on, one pixel at least
--   Source x y i             sixteen pixels from i on, not before x, not behind y, and none on both sides of y's first: what is laid from x and from y on is read before
use Rattle.std.specs.Prelude.{ℕ, ◌+◌, ◌-◌, ◌*◌, ◌≤◌, ◌<◌, ◌≡◌, cond, List, length, get_or, eqb}
use Rattle.paint_words.specs.Words.{four_from}
use Rattle.paint_coat.specs.Coat.{Coated, over}

unfoldable pub mixed_from : List ℕ → List ℕ → ℕ → ℕ → ℕ → ℕ → List ℕ
mixed_from l m a b t x = cond (eqb (get_or m (x - t) 0) 0) (four_from l ((a + (x - t)) * 4)) (four_from l ((b + (x - t)) * 4))

unfoldable pub copied_from : List ℕ → ℕ → ℕ → ℕ → List ℕ
copied_from l a t x = four_from l ((a + (x - t)) * 4)

pub record TwoMixed (m k : List ℕ) (a b n : ℕ) (l e : List ℕ) : Type 0 where
  pub long : length e ≡ length l
  pub low : (x : ℕ) → x < n → four_from e ((a + x) * 4) ≡ cond (eqb (get_or m x 0) 0) (four_from l ((a + x) * 4)) (four_from l ((b + x) * 4))
  pub up : (x : ℕ) → x < n → four_from e ((b + x) * 4) ≡ cond (eqb (get_or k x 0) 0) (four_from l ((a + x) * 4)) (four_from l ((b + x) * 4))
  pub before : (i : ℕ) → i < a * 4 → get_or e i 0 ≡ get_or l i 0
  pub between : (i : ℕ) → (a + n) * 4 ≤ i → i < b * 4 → get_or e i 0 ≡ get_or l i 0
  pub behind : (i : ℕ) → (b + n) * 4 ≤ i → get_or e i 0 ≡ get_or l i 0

pub record Stepped (up : ℕ → List ℕ) (t x n : ℕ) (l : List ℕ) (r : ℕ) (e : List ℕ) : Type 0 where
  pub more : x < r
  pub most : r ≤ n
  pub done : Coated (over up) l (t + x) (t + r) e

unfoldable pub line_from : List ℕ → ℕ → ℕ → List ℕ
line_from l i x = four_from l ((i + x) * 4)

unfoldable pub chosen_from : List ℕ → List ℕ → ℕ → ℕ → ℕ → List ℕ
chosen_from l m a b x = cond (eqb (get_or m x 0) 0) (four_from l ((a + x) * 4)) (four_from l ((b + x) * 4))

pub record TwoLaid (lo hi : ℕ → List ℕ) (a b p q : ℕ) (l e : List ℕ) : Type 0 where
  pub long : length e ≡ length l
  pub low : (x : ℕ) → p ≤ x → x < q → four_from e ((a + x) * 4) ≡ lo x
  pub up : (x : ℕ) → p ≤ x → x < q → four_from e ((b + x) * 4) ≡ hi x
  pub before : (i : ℕ) → i < (a + p) * 4 → get_or e i 0 ≡ get_or l i 0
  pub between : (i : ℕ) → (a + q) * 4 ≤ i → i < (b + p) * 4 → get_or e i 0 ≡ get_or l i 0
  pub behind : (i : ℕ) → (b + q) * 4 ≤ i → get_or e i 0 ≡ get_or l i 0

pub record TwoPart (m k : List ℕ) (a b p q : ℕ) (l e : List ℕ) : Type 0 where
  pub done : TwoLaid (chosen_from l m a b) (chosen_from l k a b) a b p q l e

pub record TwoStepped (m k : List ℕ) (a b x n : ℕ) (l : List ℕ) (r : ℕ) (e : List ℕ) : Type 0 where
  pub more : x < r
  pub most : r ≤ n
  pub done : TwoPart m k a b x r l e

pub record Source (x y i : ℕ) : Type 0 where
  pub from : x ≤ i
  pub upto : i ≤ y
  pub apart : i < y → i + 16 ≤ y
