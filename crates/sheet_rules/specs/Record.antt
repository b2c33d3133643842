-- The sheet's records: their octets, their values, and a sheet cut into records (01, "The sheet").
--
--   record_size    the octets of a record
--   most_records   how many records a good sheet has at most
--   decisive_size  so many octets of a sheet decide its verdict: those of one record more
--   colour_at      the colour of the three octets from a place on
--   record_from    the record of the 28 octets from a place on
--   record_at      the record of a number in a sheet
--   is_grey        octet 17 is 1: the layer's data has one component, lightness
--   marked v r    the record with octet 17 as given
--   encode        the 28 octets of a record
--   sheet_of       the octets of records, one after the other
--   records_from   so many records of a sheet from a number on
--   records       all whole records of a sheet, in order
--   rest          how many octets are left after them: a part record
--   blank         the record of 28 zeros, and nth: the record of a number in a list, blank past its end
--   sum_of         a number of each record, added up
--   height_in      what a record adds to the page's height: that of layer 2
use Rattle.std.specs.Prelude.{ℕ, ◌+◌, ◌*◌, ◌%◌, Bool, List, [], ◌∷◌, ◌++◌, length, get_or, eqb}
use Rattle.laws.specs.Tests.{only}
use Rattle.octets.specs.Octets.{be16_at, be32_at, octets16, octets32}
use Rattle.octets.specs.Entries.{entries_from, whole_entries, joined}
use Rattle.sheet_rules.specs.declared.Colour.{Colour}
use Rattle.sheet_rules.specs.declared.Record.{Record}

abbrev pub record_size : ℕ
record_size = 28

-- 64 stripes of 15 layers
abbrev pub most_records : ℕ
most_records = 960

abbrev pub decisive_size : ℕ
decisive_size = (most_records + 1) * record_size

abbrev pub colour_at : List ℕ → ℕ → Colour
colour_at s at = record { c0 = get_or s at 0; c1 = get_or s (at + 1) 0; c2 = get_or s (at + 2) 0 }

-- the table of the paper, line by line
abbrev pub record_from : List ℕ → ℕ → Record
record_from s at =
    record {
      stripe = be16_at s at;
      layer = get_or s (at + 2) 0;
      coder = get_or s (at + 3) 0;
      x = be16_at s (at + 4);
      y = be16_at s (at + 6);
      width = be16_at s (at + 8);
      height = be16_at s (at + 10);
      res = be16_at s (at + 12);
      base0 = get_or s (at + 14) 0;
      base1 = get_or s (at + 15) 0;
      base2 = get_or s (at + 16) 0;
      octet17 = get_or s (at + 17) 0;
      start = be32_at s (at + 18);
      len = be32_at s (at + 22);
      octets26 = be16_at s (at + 26);
    }

abbrev pub is_grey : Record → Bool
is_grey r = eqb r.octet17 1

-- the record with octet 17 as given
abbrev pub marked : ℕ → Record → Record
marked v r =
    record {
      stripe = r.stripe;
      layer = r.layer;
      coder = r.coder;
      x = r.x;
      y = r.y;
      width = r.width;
      height = r.height;
      res = r.res;
      base0 = r.base0;
      base1 = r.base1;
      base2 = r.base2;
      octet17 = v;
      start = r.start;
      len = r.len;
      octets26 = r.octets26;
    }

unfoldable pub record_at : List ℕ → ℕ → Record
record_at s i = record_from s (i * record_size)

unfoldable pub encode : Record → List ℕ
unfolding octets16 octets32
encode r =
    octets16 r.stripe
    ++ (r.layer ∷ r.coder ∷ octets16 r.x
    ++ (octets16 r.y
    ++ (octets16 r.width
    ++ (octets16 r.height
    ++ (octets16 r.res
    ++ (r.base0 ∷ r.base1 ∷ r.base2 ∷ r.octet17 ∷ octets32 r.start ++ (octets32 r.len ++ octets16 r.octets26)))))))

abbrev pub sheet_of : List Record → List ℕ
sheet_of rs = joined encode rs

abbrev pub records_from : List ℕ → ℕ → ℕ → List Record
records_from s k i = entries_from (record_at s) k i

unfoldable pub records : List ℕ → List Record
unfolding entries_from
records s = whole_entries record_size record_at s

abbrev pub rest : List ℕ → ℕ
rest s = length s % record_size

abbrev pub blank : Record
blank =
    record {
      stripe = 0;
      layer = 0;
      coder = 0;
      x = 0;
      y = 0;
      width = 0;
      height = 0;
      res = 0;
      base0 = 0;
      base1 = 0;
      base2 = 0;
      octet17 = 0;
      start = 0;
      len = 0;
      octets26 = 0;
    }

abbrev pub nth : List Record → ℕ → Record
nth rs i = get_or rs i blank

unfoldable pub sum_of : (Record → ℕ) → List Record → ℕ
sum_of f [] = 0
sum_of f (r ∷ rs) = f r + sum_of f rs

abbrev pub height_in : Record → ℕ
height_in r = only (eqb r.layer 2) r.height
