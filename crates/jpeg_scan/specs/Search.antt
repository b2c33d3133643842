-- What is promised between the steps of the search.
--
--   filled_triple a b c  an octet of scan data with the two after it: a pair that is data, or FF FF with no 00 after it
--   AllFilled s i n     so are the n octets from i on
--   Clears s from r     scan data from one place on goes on at another
--   Shows s r found     the next marker, with its code and the place after it, or that there is none
use Rattle.std.specs.Prelude.{ℕ, ◌+◌, ◌≤◌, ◌<◌, Bool, true, ◌&&◌, ◌||◌, not, List, ◌≡◌, length, get_or, eqb, Option, Some, None}
use Rattle.jpeg_rules.specs.declared.Marker.TheVariants.{Code}
use Rattle.jpeg_rules.specs.Marker.{marker_of}
use Rattle.jpeg_rules.specs.Walk.{scan_of}
use Rattle.jpeg_pairs.specs.Pairs.{plain_pair}
use Rattle.jpeg_scan.specs.declared.Next.{Next}

abbrev pub filled_triple : ℕ → ℕ → ℕ → Bool
filled_triple a b c = plain_pair a b || (eqb b 0xFF && not (eqb c 0x00))

abbrev pub AllFilled : List ℕ → ℕ → ℕ → Type 0
AllFilled s i n = (j : ℕ) → j < n → filled_triple (get_or s (i + j) 0) (get_or s (i + j + 1) 0) (get_or s (i + j + 2) 0) ≡ true

pub record Clears (s : List ℕ) (from r : ℕ) : Type 0 where
  pub after : from ≤ r
  pub inside : r ≤ length s
  pub same : scan_of s from ≡ scan_of s r

unfoldable pub Shows : List ℕ → Option Next → Option ℕ → Type 0
Shows s (Some n) found = (found ≡ Some n.place) × (marker_of s n.place ≡ Code n.code n.next)
Shows s None found = found ≡ None
