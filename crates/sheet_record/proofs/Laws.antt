-- A record put together from its fields, and its octets from theirs.
-- Assumes nothing.
use mathlib.Core.Path.{◌≡◌, ap, ◌∙◌}
use Prim.Native.Nat.{ℕ, ◌+◌, ◌*◌, ◌/◌, ◌%◌}
use mathlib.Core.List.{List, [], ◌∷◌}
use lib.ListN.{get_or}
use borrow.Author.Rules.{rules}
use Rattle.octets.specs.Octets.{be16_at, be32_at, put_at}
use Rattle.sheet_rules.specs.declared.Record.{Record}
use Rattle.sheet_rules.specs.Record.{record_size, record_from, record_at, encode}

pub record_made : (s : List ℕ) (at stripe x y width height res start len last : ℕ)
    → stripe ≡ be16_at s at
    → x ≡ be16_at s (at + 4)
    → y ≡ be16_at s (at + 6)
    → width ≡ be16_at s (at + 8)
    → height ≡ be16_at s (at + 10)
    → res ≡ be16_at s (at + 12)
    → start ≡ be32_at s (at + 18)
    → len ≡ be32_at s (at + 22)
    → last ≡ be16_at s (at + 26)
    → ◌≡◌ {A = Record}
    (record {
      stripe = stripe;
      layer = get_or s (at + 2) 0;
      coder = get_or s (at + 3) 0;
      x = x;
      y = y;
      width = width;
      height = height;
      res = res;
      base0 = get_or s (at + 14) 0;
      base1 = get_or s (at + 15) 0;
      base2 = get_or s (at + 16) 0;
      octet17 = get_or s (at + 17) 0;
      start = start;
      len = len;
      octets26 = last;
    })
    (record_from s at)
record_made s at stripe x y width height res start len last e0 e1 e2 e3 e4 e5 e6 e7 e8 = simp (e0, e1, e2, e3, e4, e5, e6, e7, e8)

-- the three octets that a call made
pub octets_made : (r : Record) (start len last : ℕ) → start ≡ r.start / 65536 / 256 → len ≡ r.len / 65536 / 256 → last ≡ r.octets26 / 256
    → ◌≡◌ {A = List ℕ}
    (r.stripe / 256 ∷ r.stripe % 256 ∷ r.layer ∷ r.coder ∷ r.x / 256 ∷ r.x % 256 ∷ r.y / 256 ∷ r.y % 256
    ∷ r.width / 256 ∷ r.width % 256 ∷ r.height / 256 ∷ r.height % 256 ∷ r.res / 256 ∷ r.res % 256
    ∷ r.base0 ∷ r.base1 ∷ r.base2 ∷ r.octet17
    ∷ start ∷ r.start / 65536 % 256 ∷ r.start % 65536 / 256 ∷ r.start % 65536 % 256
    ∷ len ∷ r.len / 65536 % 256 ∷ r.len % 65536 / 256 ∷ r.len % 65536 % 256
    ∷ last ∷ r.octets26 % 256 ∷ [])
    (encode r)
unfolding encode
octets_made r start len last e0 e1 e2 = simp (e0, e1, e2)

-- a record by its number, and a record put
pub record_numbered : (s : List ℕ) (i : ℕ) (r : Record) → r ≡ record_from s (i * record_size) → r ≡ record_at s i
unfolding record_at
record_numbered s i r e = e

pub record_put : (d : List ℕ) (at : ℕ) (r : Record) (b e : List ℕ) → b ≡ encode r → e ≡ put_at d at b → e ≡ put_at d at (encode r)
record_put d at r b e k h = h ∙ ap (put_at d at) k

pub ruleset making = (rules, record_made, octets_made, record_numbered, record_put)
