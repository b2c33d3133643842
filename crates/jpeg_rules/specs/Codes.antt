-- Which code makes which marker, in the words of 01, "Where an image layer ends" (02, 2026-03; T.81 table B.1): 01 stands alone, DA starts a scan, D9
-- ends, and of all others it is said here. The grammar speaks by these sentences and not by the walk's table.
--
--   IsFrame c     the code of a frame
--   IsFault c     a code that may not stand where a marker is due
--   HasLength c   the code of a segment, which carries a length
use Rattle.std.specs.Prelude.{ℕ, ◌≤◌, ◌≡◌, ◌⊎◌, ◌≢◌}

-- C0 to CF except C4, C8, CC
abbrev pub IsFrame : ℕ → Type 0
IsFrame c = (0xC0 ≤ c) × (c ≤ 0xCF) × (c ≢ 0xC4) × (c ≢ 0xC8) × (c ≢ 0xCC)

-- D0 to D7 and a second D8, 00, FF and 02 to BF
abbrev pub IsFault : ℕ → Type 0
IsFault c = ((0xD0 ≤ c) × (c ≤ 0xD7)) ⊎ (c ≡ 0xD8) ⊎ (c ≡ 0x00) ⊎ (c ≡ 0xFF) ⊎ ((0x02 ≤ c) × (c ≤ 0xBF))

-- the rest: C4, C8, CC and DB to FE
abbrev pub HasLength : ℕ → Type 0
HasLength c = (c ≡ 0xC4) ⊎ (c ≡ 0xC8) ⊎ (c ≡ 0xCC) ⊎ ((0xDB ≤ c) × (c ≤ 0xFE))
