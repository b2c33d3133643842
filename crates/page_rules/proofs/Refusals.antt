-- Pages with one fault each: the number and the place of what a page is refused with where its parts meet, written out (the start's own refusals stand in
-- start_rules, a segment's in segment_rules, a stripe's in mode1_rules, under the same name). Reading and the sentences name the same refusals, so that one
-- which is wrong in both agrees with itself; these pages name each once more, by the octets that get it.
--
--   faulty at v        the page of one stripe that has only a mask (Samples.antt), with the octets v at a place
--   with_optional n     its start, an optional segment whose ident ends in n, and FF D9
--   behind k           its stripe, where k stripes stand in front
-- Assumes nothing.
use Prim.Native.Nat.{ℕ, ◌≤◌, ◌<◌}
use mathlib.Core.Path.{◌≡◌, refl}
use mathlib.Core.List.{List, [], ◌∷◌, ◌++◌}
use lib.ListN.{length, take}
use borrow.Author.Tests.{le-ltb, lt-ltb}
use Rattle.octets.specs.Octets.{be16_at, be32_at, begins, stands_at, octets16, octets32, put_at}
use Rattle.std.specs.Prelude.{Err}
use Rattle.answers.specs.Answers.{Answer}
use Rattle.answers.specs.declared.Refusal.TheVariants.{BadMark, BadLength, BadStripe, TooLong}
use Rattle.field_rules.specs.Field.{Res, ok, no, fields}
use Rattle.segment_rules.specs.Rules.{longest_page}
use Rattle.segment_rules.specs.Segment.{begin_of, open_table}
use Rattle.body_rules.specs.Body.{Item, skipped}
use Rattle.start_rules.specs.Coders.{mask_coder, image_coder}
use Rattle.start_rules.specs.Grammar.{start_of}
use Rattle.start_rules.specs.Reading.{start_table}
use Rattle.mode1_rules.specs.Kinds.{type_ok}
use Rattle.mode1_rules.specs.Grammar.{colour_of, fields_of}
use Rattle.mode1_rules.specs.Reading.{stripe_table}
use Rattle.page_rules.specs.Reading.{end_table, item_of, page_of, room_of, read_of}
use Rattle.page_rules.proofs.Samples.{head, stripe, stripe_head, coded_mask, page}
use Rattle.page_rules.proofs.Examples.{optional_of}

-- a page of 16,777,216 octets is too long, whatever it says; one of 16,777,215 is read
pub longest : (s : List ℕ) (room : ℕ) → (16777215 < length s → read_of s room ≡ Err TooLong) × (length s ≤ 16777215 → read_of s room ≡ room_of room (page_of s))
unfolding read_of
longest s room = (λ h. simp (lt-ltb longest_page (length s) h), λ h. simp (le-ltb longest_page (length s) h))

unfoldable pub faulty : ℕ → List ℕ → Answer
unfolding put_at page
faulty at v = read_of (put_at page at v) 84

-- the stripe's marker; its length, below 6 and other than 37; its ident, 02 and FF; FF D9, twice
pub stripe_refused : (faulty 23 (0xEE ∷ []) ≡ Err (BadMark 22)) × (faulty 25 (0x05 ∷ 0x00 ∷ []) ≡ Err (BadLength 24)) × (faulty 25 (0x24 ∷ []) ≡ Err (BadLength 24))
    × (faulty 25 (0x26 ∷ []) ≡ Err (BadLength 24)) × (faulty 29 (0x02 ∷ []) ≡ Err (BadMark 26)) × (faulty 29 (0xFF ∷ []) ≡ Err (BadMark 26))
    × (faulty 66 (0xFE ∷ []) ≡ Err (BadMark 66)) × (faulty 69 (0xD8 ∷ []) ≡ Err (BadMark 68))
unfolding faulty read_of start_of begin_of fields_of colour_of octets16 octets32 start_table open_table stripe_table end_table fields mask_coder image_coder type_ok be16_at be32_at stands_at begins
stripe_refused = (refl, refl, refl, refl, refl, refl, refl, refl)

-- ---- optional segments: the first ident and the last

unfoldable pub with_optional : ℕ → Answer
unfolding optional_of page
with_optional n = read_of (take 22 page ++ (optional_of n (7 ∷ []) ++ (0xFF ∷ 0xD9 ∷ []))) 84

-- it is passed over, so that the fault is the missing stripe behind it; 00, 02 and FF are no idents
pub optional_idents : (with_optional 0x03 ≡ Err (BadStripe 31)) × (with_optional 0xFE ≡ Err (BadStripe 31)) × (with_optional 0x02 ≡ Err (BadMark 26)) × (with_optional 0xFF ≡ Err (BadMark 26))
    × (with_optional 0x00 ≡ Err (BadMark 26))
unfolding with_optional read_of start_of begin_of fields_of colour_of octets16 octets32 start_table open_table stripe_table end_table fields mask_coder image_coder type_ok be16_at be32_at stands_at begins
optional_idents = (refl, refl, refl, refl, refl)

-- ---- what may stand behind so many stripes

-- where reading goes on; 0 behind a refusal
unfoldable pub placed : Res Item → ℕ
placed (ok it n) = n
placed (no x) = 0

-- with 60 lines left
abbrev pub behind : ℕ → Res Item
behind k = item_of head k 60 (stripe_head stripe ++ coded_mask) 0

-- a 64th stripe is read; a 65th is faulted at its ident, whatever its length; an optional segment is none behind a stripe; a height above what is left
pub too_many : (placed (behind 63) ≡ 44) × (behind 64 ≡ no (BadStripe 4)) × (item_of head 64 60 (begin_of 0x01 38) 0 ≡ no (BadStripe 4))
    × (item_of head 0 60 (optional_of 9 (7 ∷ [])) 0 ≡ ok skipped 9) × (item_of head 1 60 (optional_of 9 (7 ∷ [])) 0 ≡ no (BadMark 4))
    × (item_of head 1 1 (stripe_head stripe ++ coded_mask) 0 ≡ no (BadStripe 31))
unfolding item_of placed optional_of begin_of fields_of colour_of octets16 octets32 open_table stripe_table fields type_ok be16_at be32_at stands_at begins
too_many = (refl, refl, refl, refl, refl, refl)
