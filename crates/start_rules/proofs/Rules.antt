-- The tests of the start of page and the sentences of the grammar say the same.
-- Assumes nothing.
use Prim.Native.Nat.{ℕ, ◌<◌}
use native.Mathlib.Omega.{arith}
use mathlib.Core.Logic.{inl, inr}
use mathlib.Core.List.{[], ◌∷◌}
use Rattle.laws.proofs.Says.{Says, says_one, says_list}
use Rattle.segment_rules.specs.declared.Mode.{Mode}
use Rattle.segment_rules.specs.declared.Mode.TheVariants.{One}
use Rattle.sheet_rules.specs.Sentences.{Listed}
use Rattle.start_rules.specs.Coders.{mask_coder, image_coder}
use Rattle.start_rules.specs.Grammar.{MaskCoder, ImageCoder}

pub says_mask : (m : Mode) (c : ℕ) → Says (mask_coder m c) (MaskCoder m c)
unfolding mask_coder
says_mask One c = says_list c 0 (1 ∷ 2 ∷ 4 ∷ 8 ∷ []) (says_list c 1 (2 ∷ 4 ∷ 8 ∷ []) (says_list c 2 (4 ∷ 8 ∷ []) (says_list c 4 (8 ∷ []) (says_one c 8))))

pub says_image : (m : Mode) (c : ℕ) → Says (image_coder m c) (ImageCoder m c)
unfolding image_coder
says_image One c = says_list c 0 (1 ∷ []) (says_one c 1)

-- ---- bounds that the rules give

pub mask_small : (m : Mode) (c : ℕ) → MaskCoder m c → c < 256
mask_small One c (inl h) = omega arith
mask_small One c (inr (inl h)) = omega arith
mask_small One c (inr (inr (inl h))) = omega arith
mask_small One c (inr (inr (inr (inl h)))) = omega arith
mask_small One c (inr (inr (inr (inr h)))) = omega arith

pub image_small : (m : Mode) (c : ℕ) → ImageCoder m c → c < 256
image_small One c (inl h) = omega arith
image_small One c (inr h) = omega arith

pub listed_small : (n : ℕ) → Listed n → n < 65536
listed_small n (inl e) = omega arith
listed_small n (inr (inl e)) = omega arith
listed_small n (inr (inr (inl e))) = omega arith
listed_small n (inr (inr (inr (inl e)))) = omega arith
listed_small n (inr (inr (inr (inr (inl e))))) = omega arith
listed_small n (inr (inr (inr (inr (inr e))))) = omega arith
