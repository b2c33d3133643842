-- The painter's invariant. From the lowest pair up, a pixel has a floor: the highest pair so far whose mask is known to be 1 there, or layer 1, or the
-- dark, where it is known that nothing is known. Nothing below the floor shows, so that only the floor's image is laid; pairs above it whose masks are
-- not known then have to agree with it, one after the other.
--
--   dark             the floor of a pixel of which nothing can be known
--   Settled st f c j   after j pairs the floor is c, and at least f
--   chosen st c      what is laid for a floor
--   stage st c p     what the pixel shows once the pairs up to p have agreed: the first p pairs decided, where the floor is not above them
--   Step st j c c'   what pair j makes of a floor
use Rattle.std.specs.Prelude.{ℕ, ◌≤◌, ◌<◌, ◌≡◌, ◌≢◌, cond, eqb, leb, Option, None}
use Rattle.sheet_rules.specs.declared.Colour.{Colour}
use Rattle.pixel_rules.specs.declared.Mask.TheVariants.{Zero, One}
use Rattle.pixel_rules.specs.Decide.{Stack, decide}

abbrev pub dark : ℕ
dark = 8

pub record Settled (st : Stack) (f c j : ℕ) : Type 0 where
  pub least : c ≢ dark → f ≤ c
  pub most : c ≢ dark → c ≤ j
  pub sure : c ≢ dark → decide st c ≡ st.image c
  pub above : c ≢ dark → (p : ℕ) → c < p → p ≤ j → st.mask p ≢ One
  pub lost : c ≡ dark → decide st j ≡ None

unfoldable pub chosen : Stack → ℕ → Option Colour
chosen st c = cond (eqb c dark) None (st.image c)

unfoldable pub stage : Stack → ℕ → ℕ → Option Colour
unfolding decide
stage st c p = cond (eqb c dark) None (cond (leb c p) (decide st p) (st.image c))

-- the floor stays, is taken, or is lost
pub data Step (st : Stack) (j c c' : ℕ) : Type 0 where
  stays : st.mask j ≢ One → c' ≡ c → Step st j c c'
  taken : st.mask j ≡ One → c' ≡ j → Step st j c c'
  lost : st.mask j ≢ Zero → st.image j ≡ None → c' ≡ dark → Step st j c c'
