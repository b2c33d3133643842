-- Scan data by pairs of octets: nearly all of it is octets other than FF, FF 00 and restart markers without fill, which pairs tell.
--
--   codes b             the code after an FF is more than data: FF, or a marker's
--   plain_pair a b       a pair that is data
--   Suspect s from r    scan data from one place on goes on at another, r, where a pair stands that is more than data, or the last octet
use Rattle.std.specs.Prelude.{ℕ, ◌+◌, ◌≤◌, ◌<◌, Bool, true, ◌&&◌, ◌||◌, not, List, ◌≡◌, length, get_or, eqb, leb}
use Rattle.laws.specs.Tests.{within}
use Rattle.jpeg_rules.specs.Walk.{scan_of}

abbrev pub codes : ℕ → Bool
codes b = not (eqb b 0x00 || within 0xD0 0xD7 b)

abbrev pub plain_pair : ℕ → ℕ → Bool
plain_pair a b = (not (eqb a 0xFF) || eqb b 0x00) || (leb 0xD0 b && leb b 0xD7)

pub record Suspect (s : List ℕ) (from r : ℕ) : Type 0 where
  pub after : from ≤ r
  pub inside : r < length s
  pub same : scan_of s from ≡ scan_of s r
  pub first : r + 1 < length s → get_or s r 0 ≡ 0xFF
  pub second : r + 1 < length s → codes (get_or s (r + 1) 0) ≡ true
