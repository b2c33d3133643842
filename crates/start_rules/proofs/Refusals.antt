-- The start of page octet by octet, and with one fault each: the number and the place of every refusal, written out. Reading and the sentences name the
-- same refusals, so that one which is wrong in both agrees with itself; these octets name each once more.
--
--   opening        a page of width 4 at 200, whose masks have coder 4
--   with at v      its reading, with the octets v at a place
-- Assumes nothing.
use Prim.Native.Nat.{ℕ}
use mathlib.Core.Path.{◌≡◌, refl}
use mathlib.Core.List.{List, [], ◌∷◌}
use lib.ListN.{take}
use Rattle.octets.specs.Octets.{be16_at, be32_at, begins, stands_at, put_at}
use Rattle.answers.specs.declared.Refusal.TheVariants.{Short, BadMark, BadLength, BadVersion, BadMode, BadCoder, BadRes, BadWidth}
use Rattle.field_rules.specs.Field.{Res, ok, no, fields}
use Rattle.segment_rules.specs.Rules.{mode1}
use Rattle.start_rules.specs.declared.Head.{Head}
use Rattle.start_rules.specs.Coders.{mask_coder, image_coder}
use Rattle.start_rules.specs.Reading.{start_table, start_read}

abbrev pub opening : List ℕ
opening =
    0xFF ∷ 0xD8 ∷ 0xFF ∷ 0xED ∷ 0x00 ∷ 0x10 ∷ 0x4D ∷ 0x52 ∷ 0x43 ∷ 0x00
    ∷ 0x00 ∷ 0x01 ∷ 0x04 ∷ 0x00 ∷ 0x00 ∷ 0xC8 ∷ 0x00 ∷ 0x00 ∷ 0x00 ∷ 0x04 ∷ 0xFF ∷ 0xD9 ∷ []

abbrev pub saying : ℕ → ℕ → ℕ → ℕ → Res Head
saying mask image main width = ok (record { rules = mode1; mask = mask; image = image; main = main; width = width }) 22

unfoldable pub with : ℕ → List ℕ → Res Head
unfolding put_at
with at v = start_read (put_at opening at v) 0

-- as it stands; each coder; the widest page
pub start_taken : (start_read opening 0 ≡ saying 4 0 200 4) × (with 12 (0 ∷ 1 ∷ []) ≡ saying 0 1 200 4) × (with 12 (1 ∷ []) ≡ saying 1 0 200 4)
    × (with 12 (2 ∷ []) ≡ saying 2 0 200 4) × (with 12 (8 ∷ []) ≡ saying 8 0 200 4) × (with 18 (0x80 ∷ 0x00 ∷ []) ≡ saying 4 0 200 32768)
unfolding with start_read start_table fields mask_coder image_coder be16_at be32_at stands_at begins
start_taken = (refl, refl, refl, refl, refl, refl)

-- FF D8, FF ED, a length below 6 at once, the ident, a length other than 16 behind the ident, version and mode
pub mark_refused : (with 1 (0xD9 ∷ []) ≡ no (BadMark 0)) × (with 3 (0xEE ∷ []) ≡ no (BadMark 2)) × (with 5 (0x05 ∷ 0x00 ∷ []) ≡ no (BadLength 4))
    × (with 5 (0x06 ∷ 0x00 ∷ []) ≡ no (BadMark 6)) × (with 9 (0x01 ∷ []) ≡ no (BadMark 6)) × (with 5 (0x11 ∷ []) ≡ no (BadLength 4))
    × (with 10 (1 ∷ []) ≡ no (BadVersion 10)) × (with 11 (0 ∷ []) ≡ no (BadMode 11)) × (with 11 (2 ∷ []) ≡ no (BadMode 11))
unfolding with start_read start_table fields mask_coder image_coder be16_at be32_at stands_at begins
mark_refused = (refl, refl, refl, refl, refl, refl, refl, refl, refl)

-- the coders of masks and of image layers, the resolution, the width, FF D9, and each field cut short
pub rest_refused : (with 12 (3 ∷ []) ≡ no (BadCoder 12)) × (with 12 (16 ∷ []) ≡ no (BadCoder 12)) × (with 13 (2 ∷ []) ≡ no (BadCoder 13))
    × (with 15 (0xC9 ∷ []) ≡ no (BadRes 14)) × (with 19 (0 ∷ []) ≡ no (BadWidth 16)) × (with 18 (0x80 ∷ 0x01 ∷ []) ≡ no (BadWidth 16))
    × (with 20 (0xFE ∷ []) ≡ no (BadMark 20)) × (start_read (take 1 opening) 0 ≡ no (Short 0)) × (start_read (take 5 opening) 0 ≡ no (Short 4))
    × (start_read (take 9 opening) 0 ≡ no (Short 6)) × (start_read (take 15 opening) 0 ≡ no (Short 14)) × (start_read (take 19 opening) 0 ≡ no (Short 16))
    × (start_read (take 21 opening) 0 ≡ no (Short 20))
unfolding with start_read start_table fields mask_coder image_coder be16_at be32_at stands_at begins
rest_refused = (refl, refl, refl, refl, refl, refl, refl, refl, refl, refl, refl, refl, refl)
