-- The stripes of Apart.antt with one fault each: the number and the place of every refusal, written out. Reading and the sentences name the same
-- refusals, and share `fault_of`, so that one which is wrong in both agrees with itself; these octets name each once more.
--
--   with at v     the reading of the first stripe, with the octets v at a place; its body stands at 0, and 60 lines are left
--   cut n         the reading of its first n octets
-- Assumes nothing.
use Prim.Native.Nat.{ℕ}
use mathlib.Core.Path.{◌≡◌, refl}
use mathlib.Core.List.{List, [], ◌∷◌}
use lib.ListN.{take}
use Rattle.octets.specs.Octets.{be16_at, be32_at, begins, stands_at, put_at}
use Rattle.answers.specs.declared.Refusal.TheVariants.{Short, BadLength, BadRes, BadType, BadStripe, BadLayer}
use Rattle.field_rules.specs.Field.{Res, no, fields}
use Rattle.jpeg_rules.specs.Marker.{class_of, marker_of}
use Rattle.jpeg_rules.specs.Walk.{seg_of, scan_of, tag_of, frame_body_of, frame_of, scan_step_of, segment_of, end_of, turn_of, walk_of}
use Rattle.segment_rules.specs.Rules.{mode1}
use Rattle.body_rules.specs.Body.{Item}
use Rattle.mode1_rules.specs.Kinds.{type_ok}
use Rattle.mode1_rules.specs.Reading.{stripe_table, stripe_read, fault_of}
use Rattle.mode1_rules.proofs.Apart.{first, second, head}

unfoldable pub with : ℕ → List ℕ → Res Item
unfolding put_at first
with at v = stripe_read head 0 60 (put_at first at v) 0

unfoldable pub cut : ℕ → Res Item
unfolding first
cut n = stripe_read head 0 60 (take n first) 0

-- no layer, 1 and 3 without 2, above 7, and a layer whose coder octet is 0
pub type_refused : (with 0 (0 ∷ []) ≡ no (BadType 0)) × (with 0 (5 ∷ []) ≡ no (BadType 0)) × (with 0 (8 ∷ []) ≡ no (BadType 0))
    × (stripe_read (record { rules = mode1; mask = 0; image = 1; main = 400; width = 100 }) 0 60 first 0 ≡ no (BadType 0))
    × (stripe_read (record { rules = mode1; mask = 8; image = 0; main = 400; width = 100 }) 0 60 first 0 ≡ no (BadType 0))
unfolding with first stripe_read stripe_table fields type_ok be16_at be32_at
type_refused = (refl, refl, refl, refl, refl)

-- an offset of 65,536 and more, along and down, of the background and of the foreground; a height of 0, and one line more than are left; a mask
-- without octets, and octets without a mask
pub field_refused : (with 8 (1 ∷ []) ≡ no (BadStripe 7)) × (with 12 (1 ∷ []) ≡ no (BadStripe 7)) × (with 16 (1 ∷ []) ≡ no (BadStripe 15))
    × (with 20 (1 ∷ []) ≡ no (BadStripe 15)) × (with 26 (0 ∷ []) ≡ no (BadStripe 23)) × (with 26 (61 ∷ []) ≡ no (BadStripe 23))
    × (with 30 (0 ∷ []) ≡ no (BadStripe 27)) × (stripe_read head 0 60 (put_at second 30 (1 ∷ [])) 0 ≡ no (BadStripe 27))
unfolding with put_at second stripe_read stripe_table fields type_ok be16_at be32_at
field_refused = (refl, refl, refl, refl, refl, refl, refl, refl)

-- each field cut short: an offset is one of eight octets; then the mask
pub field_cut : (cut 0 ≡ no (Short 0)) × (cut 3 ≡ no (Short 1)) × (cut 6 ≡ no (Short 4)) × (cut 14 ≡ no (Short 7)) × (cut 22 ≡ no (Short 15))
    × (cut 26 ≡ no (Short 23)) × (cut 30 ≡ no (Short 27)) × (cut 35 ≡ no (Short 31))
unfolding cut stripe_read stripe_table fields type_ok be16_at be32_at
field_cut = (refl, refl, refl, refl, refl, refl, refl, refl)

-- the background's layer stands at 36: FF D8, the length of its first segment, its resolution, the length and the height of its frame; cut in a segment
pub layer_refused : (with 36 (0xFE ∷ []) ≡ no (BadLayer 36)) × (with 41 (1 ∷ []) ≡ no (BadLength 40)) × (with 50 (0x01 ∷ 0x2C ∷ []) ≡ no (BadRes 50))
    × (with 55 (7 ∷ []) ≡ no (BadLength 54)) × (with 58 (0 ∷ []) ≡ no (BadLayer 57)) × (cut 45 ≡ no (Short 42))
unfolding with cut stripe_read stripe_table fields type_ok be16_at be32_at stands_at begins walk_of turn_of marker_of class_of seg_of scan_of tag_of frame_of frame_body_of scan_step_of segment_of end_of fault_of
layer_refused = (refl, refl, refl, refl, refl, refl)
