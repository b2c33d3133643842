-- A row of pixels, four octets each, and a coat over a part of it.
--
--   Coated f l a b e   the pixels a up to b were painted, each by f from what stood there: the row was l and is e
--   over up            whatever stood there, pixel x is then up x
--   kept               what stood there
--   flat v             the same four octets at every pixel
--   chosen_by m low up  by what is below where the mask m is 0, and else by what is above
--   four_in n s p       the four octets of the seen sample of n octets at a place
--   samples_by n k s t i   samples of n octets, k pixels each, the first at pixel t and place i
use Rattle.std.specs.Prelude.{ℕ, ◌+◌, ◌-◌, ◌*◌, ◌/◌, ◌≤◌, ◌<◌, ◌≡◌, cond, List, length, get_or, eqb}
use Rattle.paint_words.specs.Words.{four_from, seen_from, grey_from}

pub record Coated (f : ℕ → List ℕ → List ℕ) (l : List ℕ) (a b : ℕ) (e : List ℕ) : Type 0 where
  pub long : length e ≡ length l
  pub there : (x : ℕ) → a ≤ x → x < b → four_from e (x * 4) ≡ f x (four_from l (x * 4))
  pub before : (i : ℕ) → i < a * 4 → get_or e i 0 ≡ get_or l i 0
  pub behind : (i : ℕ) → b * 4 ≤ i → get_or e i 0 ≡ get_or l i 0

unfoldable pub over : (ℕ → List ℕ) → ℕ → List ℕ → List ℕ
over up x old = up x

unfoldable pub kept : ℕ → List ℕ → List ℕ
kept x old = old

unfoldable pub chosen_by : (ℕ → ℕ) → (ℕ → List ℕ → List ℕ) → (ℕ → List ℕ → List ℕ) → ℕ → List ℕ → List ℕ
chosen_by mask low up x old = cond (eqb (mask x) 0) (low x old) (up x old)

unfoldable pub flat : List ℕ → ℕ → List ℕ
flat v x = v

unfoldable pub four_in : ℕ → List ℕ → ℕ → List ℕ
four_in n s p = cond (eqb n 3) (seen_from s p) (grey_from s p)

unfoldable pub samples_by : ℕ → ℕ → List ℕ → ℕ → ℕ → ℕ → List ℕ
samples_by n k s t i x = four_in n s (i + (x - t) / k * n)
