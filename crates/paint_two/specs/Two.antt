-- Two layers under a mask in one pass.
--
--   shown f x t        the pixels from t on are those of f from the x-th on
--   Stepped f a x n l r e    of the n pixels from a on those from the x-th up to the r-th were painted by f, one at least: the row was l and is e
use Rattle.std.specs.Prelude.{ℕ, ◌+◌, ◌-◌, ◌≤◌, ◌<◌, List}
use Rattle.paint_coat.specs.Coat.{Coated}

unfoldable pub shown : (ℕ → List ℕ) → ℕ → ℕ → ℕ → List ℕ
shown f x t y = f (x + (y - t))

pub record Stepped (f : ℕ → List ℕ → List ℕ) (a x n : ℕ) (l : List ℕ) (r : ℕ) (e : List ℕ) : Type 0 where
  pub more : x < r
  pub most : r ≤ n
  pub done : Coated f l (a + x) (a + r) e
