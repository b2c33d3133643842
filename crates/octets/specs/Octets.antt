-- Numbers and fixed strings in a list of octets. All numbers stand most significant octet first.
--   be16_at s at, be32_at s at   the number of the two or four octets of s from `at`
--   octets16 v, octets32 v     the two or four octets of the number v
--   put_at d at v               d with the octets v in place of as many from `at`
--   begins s want              s begins with the octets `want`
--   stands_at s at want         `want` stands whole in s, from `at`
--   Octets s                   each of s is an octet
-- Assumes nothing.
use Rattle.std.specs.Prelude.{ℕ, ◌+◌, ◌*◌, ◌/◌, ◌%◌, ◌<◌, Bool, true, false, ◌&&◌, List, [], ◌∷◌, ◌++◌, eqb, leb, length, get_or, take, drop}

-- an octet past the end counts as 0
unfoldable pub be16_at : List ℕ → ℕ → ℕ
be16_at s at = get_or s at 0 * 256 + get_or s (at + 1) 0

unfoldable pub be32_at : List ℕ → ℕ → ℕ
be32_at s at = be16_at s at * 65536 + be16_at s (at + 2)

-- the first octet is all that is above the others, so that reading back holds for every number
unfoldable pub octets16 : ℕ → List ℕ
octets16 v = v / 256 ∷ v % 256 ∷ []

unfoldable pub octets32 : ℕ → List ℕ
octets32 v = octets16 (v / 65536) ++ octets16 (v % 65536)

unfoldable pub put_at : List ℕ → ℕ → List ℕ → List ℕ
put_at d at v = take at d ++ (v ++ drop (at + length v) d)

unfoldable pub begins : List ℕ → List ℕ → Bool
begins s [] = true
begins [] (w ∷ ws) = false
begins (x ∷ s) (w ∷ ws) = eqb x w && begins s ws

-- the empty string stands at every place up to the end, and nothing stands past it
unfoldable pub stands_at : List ℕ → ℕ → List ℕ → Bool
stands_at s at want = leb (at + length want) (length s) && begins (drop at s) want

abbrev pub Octets : List ℕ → Type 0
Octets s = (k : ℕ) → get_or s k 0 < 256
