-- Octets of a mask, eight and sixteen at a time.
--
--   Alike v s p q     the octets p up to q are v
--   Eight s i r       the eight octets of s from i on as one number, by fours: the first octet lowest
use Rattle.std.specs.Prelude.{ℕ, ◌+◌, ◌*◌, ◌≤◌, ◌<◌, ◌≡◌, List, get_or}
use Rattle.paint_words.specs.Words.{octets_of, four_from}

pub record Alike (v : ℕ) (s : List ℕ) (p q : ℕ) : Type 0 where
  pub there : (i : ℕ) → p ≤ i → i < q → get_or s i 0 ≡ v

pub record Eight (s : List ℕ) (i r : ℕ) : Type 0 where
  pub low : ℕ
  pub high : ℕ
  pub is : r ≡ low + high * 4294967296
  pub small : low < 4294967296
  pub first : octets_of low ≡ four_from s i
  pub second : octets_of high ≡ four_from s (i + 4)
