-- A sheet cut into records: how many, which is which, that a record depends on its own 28 octets, and that it is put as they stood.
-- Assumes nothing.
use mathlib.Core.Path.{◌≡◌, refl, sym, ap, ◌∙◌}
use Prim.Native.Nat.{ℕ, ◌+◌, ◌*◌, ◌/◌, ◌%◌, ◌≤◌, ◌<◌}
use native.Mathlib.Nat.{add_assoc, add-zero}
use native.Mathlib.Omega.{arith}
use mathlib.Core.List.{List, [], ◌∷◌, ◌++◌}
use lib.Dec.{lit<, lit≤}
use lib.ListN.{length, get_or, drop, get_or-eq_default, get_or-append}
use lib.Seq.{get_or-drop}
use Rattle.octets.specs.Octets.{be16_at, be32_at, octets16, octets32, Octets}
use Rattle.octets.proofs.Laws.{drop_octet, be16_stands, be32_stands}
use Rattle.octets.specs.Entries.{Entry}
use Rattle.octets.proofs.Entries.{length_entries, entry_of_lem, joined_whole, joined_rest, whole_joined}
use Rattle.sheet_rules.specs.declared.Record.{Record}
use Rattle.sheet_rules.specs.Record.{record_size, record_from, record_at, encode, sheet_of, records, rest, blank, nth}

-- ---- one record

split16 : (n : ℕ) → n / 256 * 256 + n % 256 ≡ n
split16 n = omega arith

split32 : (n : ℕ) → n / 65536 * 65536 + n % 65536 ≡ n
split32 n = omega arith

-- the record that was put is the record read
pub record_back : (r : Record) (more : List ℕ) → record_from (encode r ++ more) 0 ≡ r
unfolding be16_at be32_at encode
record_back r more = simp (split16, split32)

-- records whose 28 octets are the same are the same
record_octets : (s t : List ℕ) (i j : ℕ) → ((m : ℕ) → m < record_size → get_or s (i + m) 0 ≡ get_or t (j + m) 0) → record_from s i ≡ record_from t j
unfolding be16_at be32_at
record_octets s t i j e =
    let z : get_or s i 0 ≡ get_or t j 0 =
    ap (λ (k : ℕ). get_or s k 0) (sym (add-zero i)) ∙ e 0 (lit< tt) ∙ ap (λ (k : ℕ). get_or t k 0) (add-zero j) in
    simp (add_assoc, z, e 1 (lit< tt), e 2 (lit< tt), e 3 (lit< tt), e 4 (lit< tt), e 5 (lit< tt), e 6 (lit< tt), e 7 (lit< tt), e 8 (lit< tt), e 9 (lit< tt), e 10 (lit< tt), e 11 (lit< tt), e 12 (lit< tt), e 13 (lit< tt), e 14 (lit< tt), e 15 (lit< tt), e 16 (lit< tt), e 17 (lit< tt), e 18 (lit< tt), e 19 (lit< tt), e 20 (lit< tt), e 21 (lit< tt), e 22 (lit< tt), e 23 (lit< tt), e 24 (lit< tt), e 25 (lit< tt), e 26 (lit< tt), e 27 (lit< tt))

pub length_encode : (r : Record) → length (encode r) ≡ record_size
unfolding encode
length_encode r = refl

-- the laws of entries hold of records
pub record_entry : Entry record_size record_at encode
unfolding record_at
record_entry = record { some = lit< tt; own = λ s t i j e. record_octets s t (i * record_size) (j * record_size) e; long = length_encode; back = record_back }

-- octets that stand there are those that their record is put as
module _ (s : List ℕ) (o : Octets s) (at : ℕ) (h : at + record_size ≤ length s) where
  further : (k n : ℕ) (l : List ℕ) → drop (at + k) s ≡ l ++ drop (at + k + n) s → drop (at + k) s ≡ l ++ drop (at + (k + n)) s
  further k n l e = e ∙ ap (λ (j : ℕ). l ++ drop j s) (add_assoc at k n)

  one : (k : ℕ) → k < record_size → drop (at + k) s ≡ get_or s (at + k) 0 ∷ drop (at + (k + 1)) s
  one k g = further k 1 (get_or s (at + k) 0 ∷ []) (drop_octet s (at + k) (omega arith))

  two : (k : ℕ) → k + 2 ≤ record_size → drop (at + k) s ≡ octets16 (be16_at s (at + k)) ++ drop (at + (k + 2)) s
  two k g = further k 2 (octets16 (be16_at s (at + k))) (be16_stands s (at + k) o (omega arith))

  four : (k : ℕ) → k + 4 ≤ record_size → drop (at + k) s ≡ octets32 (be32_at s (at + k)) ++ drop (at + (k + 4)) s
  four k g = further k 4 (octets32 (be32_at s (at + k))) (be32_stands s (at + k) o (omega arith))

  record_stands : drop at s ≡ encode (record_from s at) ++ drop (at + record_size) s
  unfolding encode octets16 octets32
  record_stands =
      rw (be16_stands s at o (omega arith), one 2 (lit< tt), one 3 (lit< tt), two 4 (lit≤ tt), two 6 (lit≤ tt), two 8 (lit≤ tt), two 10 (lit≤ tt))
      (rw (two 12 (lit≤ tt), one 14 (lit< tt), one 15 (lit< tt), one 16 (lit< tt), one 17 (lit< tt), four 18 (lit≤ tt), four 22 (lit≤ tt), two 26 (lit≤ tt)))

-- ---- a sheet cut into records

pub records_count : (s : List ℕ) → length (records s) ≡ length s / record_size
unfolding records
records_count s = length_entries (record_at s) (length s / record_size) 0

pub record_nth : (s : List ℕ) (i : ℕ) → i < length s / record_size → nth (records s) i ≡ record_at s i
unfolding records
record_nth s i h = entry_of_lem (record_at s) blank (length s / record_size) i h

-- octets that were made of records are cut into them
pub sheet_back : (rs : List Record) → records (sheet_of rs) ≡ rs
unfolding records
sheet_back rs = joined_whole record_entry rs

pub sheet_whole : (rs : List Record) → rest (sheet_of rs) ≡ 0
sheet_whole rs = joined_rest record_entry rs

-- and octets that are cut into records, none left over, are those that the records are put as
pub sheet_octets : (s : List ℕ) → Octets s → rest s ≡ 0 → sheet_of (records s) ≡ s
unfolding records record_at
sheet_octets s o w =
    whole_joined record_entry blank s w
    (λ i m h g.
    let at : ℕ = i * record_size in
    let n = length_encode (record_from s at) in
    sym (get_or-append (encode (record_from s at)) (drop (at + record_size) s) 0 m (omega arith))
    ∙ ap (λ (l : List ℕ). get_or l m 0) (sym (record_stands s o at (omega arith)))
    ∙ get_or-drop at s m 0)

-- ---- the second record, layer 2 of the first stripe

pub second_blank : (s : List ℕ) → length s < 2 * record_size → blank ≡ nth (records s) 1
second_blank s l = let n = records_count s in sym (get_or-eq_default (records s) blank {n = 1} (omega arith))

pub second_read : (s : List ℕ) {r : Record} → 2 * record_size ≤ length s → r ≡ record_at s 1 → r ≡ nth (records s) 1
second_read s l e = e ∙ sym (record_nth s 1 (omega arith))
