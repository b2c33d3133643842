-- A pixel from the highest pair down (02, 2026-06): what `decide` finds from the lowest up. No call's promise names it; it is the way that the code goes.
--
--   Way              the candidates on the way down, pairs by number; 0 is layer 1, which has no mask
--   Among            a pair is one of them
--   passing m j low  pair j, whose mask is m, above a way
--   candidates       the image layers that so many masks may choose
--   all_agree         what the samples of a way agree on
--   down s n         n pairs, from the highest down
--   MayShow          the same candidates as a sentence
use Rattle.std.specs.Prelude.{ℕ, zero, suc, ◌≤◌, ◌<◌, ◌≡◌, ◌⊎◌, Option}
use Rattle.sheet_rules.specs.declared.Colour.{Colour}
use Rattle.pixel_rules.specs.declared.Mask.{Mask}
use Rattle.pixel_rules.specs.declared.Mask.TheVariants.{Zero, One, Hidden}
use Rattle.pixel_rules.specs.Decide.{agree, Stack}

pub data Way : Type 0 where
  last : ℕ → Way
  more : ℕ → Way → Way

unfoldable pub Among : ℕ → Way → Type 0
Among j (last i) = j ≡ i
Among j (more i w) = (j ≡ i) ⊎ Among j w

-- a mask known to be 0 is passed, the first known to be 1 stops the way, and under one that is not known it goes on
unfoldable pub passing : Mask → ℕ → Way → Way
passing Zero j low = low
passing One j low = last j
passing Hidden j low = more j low

unfoldable pub candidates : (ℕ → Mask) → ℕ → Way
unfolding passing
candidates mask zero = last 0
candidates mask (suc j) = passing (mask (suc j)) (suc j) (candidates mask j)

-- known only where all are known, and the same
unfoldable pub all_agree : (ℕ → Option Colour) → Way → Option Colour
unfolding agree
all_agree image (last j) = image j
all_agree image (more j w) = agree (image j) (all_agree image w)

unfoldable pub down : Stack → ℕ → Option Colour
unfolding candidates all_agree
down s n = all_agree s.image (candidates s.mask n)

-- image layer 2j + 1 may be the one that shows: its mask, if it has one, may be 1, and no mask above it is known to be
pub record MayShow (mask : ℕ → Mask) (n j : ℕ) : Type 0 where
  pub most : j ≤ n
  pub own : 1 ≤ j → mask j ≡ Zero → ⊥
  pub above : (i : ℕ) → j < i → i ≤ n → mask i ≡ One → ⊥
