-- Segments with one fault each: the number and the place of every refusal, written out. Reading and the sentences name the same refusals, so that one
-- which is wrong in both agrees with itself; these octets name each once more.
--
--   due            idents 1 to 3 may stand there, 2 is one too many, and 1 has a body of two octets
--   segment ..     the reading of a segment whose length and ident end so, with a body of three octets
-- Assumes nothing.
use Prim.Native.Nat.{ℕ, ◌+◌, ◌*◌}
use mathlib.Core.Path.{◌≡◌, refl}
use mathlib.Core.Bool.{cond}
use mathlib.Core.List.{[], ◌∷◌}
use lib.Dec.{eqb}
use Rattle.laws.specs.Tests.{within}
use Rattle.octets.specs.Octets.{be16_at, begins, stands_at}
use Rattle.answers.specs.declared.Refusal.TheVariants.{Short, BadMark, BadLength, BadStripe}
use Rattle.field_rules.specs.Field.{Res, ok, no, fields}
use Rattle.segment_rules.specs.declared.Version.TheVariants.{Base}
use Rattle.segment_rules.specs.Rules.{longest_page}
use Rattle.segment_rules.specs.Segment.{passed, sized, Due, open_table, segment_of}

abbrev pub due : Due
due = record { may = within 1 3; full = λ n. eqb n 2; body = λ n. cond (eqb n 1) (sized 2) passed }

abbrev pub segment : ℕ → ℕ → Res ℕ
segment size n = segment_of Base due (0xFF ∷ 0xED ∷ 0x00 ∷ size ∷ 0x4D ∷ 0x52 ∷ 0x43 ∷ n ∷ 7 ∷ 7 ∷ 7 ∷ []) 0

-- a body whose fields are read begins behind the ident, one that is passed over ends where the length says
pub segment_taken : (segment 8 1 ≡ ok 1 8) × (segment 6 3 ≡ ok 3 8) × (segment 9 3 ≡ ok 3 11)
unfolding segment_of open_table fields be16_at stands_at begins
segment_taken = (refl, refl, refl)

-- the marker; a length below 6 at once, whatever the ident; the ident; one too many, whatever its length; a length that its fields do not need; a body cut
pub segment_refused : (segment_of Base due (0xFF ∷ 0xEE ∷ 0x00 ∷ 8 ∷ []) 0 ≡ no (BadMark 0)) × (segment 5 4 ≡ no (BadLength 2)) × (segment 6 4 ≡ no (BadMark 4))
    × (segment_of Base due (0xFF ∷ 0xED ∷ 0x00 ∷ 8 ∷ 0x4D ∷ 0x52 ∷ 0x44 ∷ 1 ∷ []) 0 ≡ no (BadMark 4)) × (segment 9 2 ≡ no (BadStripe 4))
    × (segment 99 2 ≡ no (BadStripe 4)) × (segment 9 1 ≡ no (BadLength 2)) × (segment 10 3 ≡ no (Short 8))
unfolding segment_of open_table fields be16_at stands_at begins
segment_refused = (refl, refl, refl, refl, refl, refl, refl, refl)

-- ---- the longest page is the longest whose length three octets can tell; what becomes of a longer one stands in page_rules (`longest`)
pub longest_page_lem : longest_page + 1 ≡ 256 * 256 * 256
longest_page_lem = refl
