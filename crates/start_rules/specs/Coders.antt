-- Which coder octets a page may name, by its mode (01, "The page, Mode 1"): the tests. As sentences they stand in Grammar.antt.
use Rattle.std.specs.Prelude.{ℕ, Bool, [], ◌∷◌}
use Rattle.laws.specs.Tests.{among}
use Rattle.segment_rules.specs.declared.Mode.{Mode}
use Rattle.segment_rules.specs.declared.Mode.TheVariants.{One}

-- mask coder octet 0, 1, 2, 4 or 8; image coder octet 0 or 1
unfoldable pub mask_coder : Mode → ℕ → Bool
unfolding among
mask_coder One c = among (0 ∷ 1 ∷ 2 ∷ 4 ∷ 8 ∷ []) c

unfoldable pub image_coder : Mode → ℕ → Bool
unfolding among
image_coder One c = among (0 ∷ 1 ∷ []) c
