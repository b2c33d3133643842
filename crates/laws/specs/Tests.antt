-- Tests and choices that every floor uses.
--
--   within lo hi x   x is one of lo to hi
--   among xs x       x is one of the list
--   only b n         n where the test holds, and else 0
use Rattle.std.specs.Prelude.{ℕ, Bool, false, ◌&&◌, ◌||◌, cond, List, [], ◌∷◌, leb, eqb}

abbrev pub within : ℕ → ℕ → ℕ → Bool
within lo hi x = leb lo x && leb x hi

unfoldable pub among : List ℕ → ℕ → Bool
among [] x = false
among (y ∷ ys) x = eqb x y || among ys x

abbrev pub only : Bool → ℕ → ℕ
only b n = cond b n 0
