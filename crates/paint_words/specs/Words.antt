-- Four octets as one number, the first octet lowest: so they are read, compared and written in one step.
--   octets_of w     the four octets of the number w
--   four_from s i   the four octets of s from i on
--   seen_from s i   three octets of s from i on, and the mark 1
--   grey_from s i   the octet of s at i as a grey, and the mark 1
-- Assumes nothing.
use Rattle.std.specs.Prelude.{ℕ, ◌+◌, ◌/◌, ◌%◌, List, [], ◌∷◌, get_or}

unfoldable pub octets_of : ℕ → List ℕ
octets_of w = w % 256 ∷ w / 256 % 256 ∷ w / 65536 % 256 ∷ w / 16777216 ∷ []

unfoldable pub four_from : List ℕ → ℕ → List ℕ
four_from s i = get_or s i 0 ∷ get_or s (i + 1) 0 ∷ get_or s (i + 2) 0 ∷ get_or s (i + 3) 0 ∷ []

unfoldable pub seen_from : List ℕ → ℕ → List ℕ
seen_from s i = get_or s i 0 ∷ get_or s (i + 1) 0 ∷ get_or s (i + 2) 0 ∷ 1 ∷ []

unfoldable pub grey_from : List ℕ → ℕ → List ℕ
grey_from s i = get_or s i 0 ∷ 128 ∷ 96 ∷ 1 ∷ []
