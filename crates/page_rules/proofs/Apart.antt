-- One page whose octets tell every field apart, of the two stripes of mode1_rules: written octet by octet, and its sheet number by number.
-- Assumes nothing.
use Prim.Native.Nat.{ℕ}
use mathlib.Core.Path.{◌≡◌, refl}
use mathlib.Core.Logic.{inl, inr}
use mathlib.Core.List.{List, [], ◌∷◌, ◌++◌}
use lib.Dec.{lit<, lit≤}
use Rattle.octets.specs.Octets.{octets16, octets32}
use Rattle.field_rules.specs.Field.{ok}
use Rattle.segment_rules.specs.Segment.{begin_of, short}
use Rattle.start_rules.specs.Grammar.{start_of}
use Rattle.body_rules.specs.Body.{no_more, last, next}
use Rattle.mode1_rules.proofs.Apart.{grey, coloured, head, first, first_records, stripe_first, second, second_records, stripe_second}
use Rattle.page_rules.specs.Grammar.{Page}
use Rattle.page_rules.specs.Reading.{page_of}
use Rattle.page_rules.proofs.Exactly.{page_there}

-- a stripe's marker, length 37 and ident
abbrev begin : List ℕ
begin = 0xFF ∷ 0xED ∷ 0x00 ∷ 0x25 ∷ 0x4D ∷ 0x52 ∷ 0x43 ∷ 0x01 ∷ []

-- coders 8 and 1, 400 to the inch, a width of 100
unfoldable pub apart : List ℕ
unfolding first second
apart =
    0xFF ∷ 0xD8 ∷ 0xFF ∷ 0xED ∷ 0x00 ∷ 0x10 ∷ 0x4D ∷ 0x52 ∷ 0x43 ∷ 0x00
    ∷ 0x00 ∷ 0x01 ∷ 0x08 ∷ 0x01 ∷ 0x01 ∷ 0x90 ∷ 0x00 ∷ 0x00 ∷ 0x00 ∷ 0x64 ∷ 0xFF ∷ 0xD9
    ∷ begin ++ (first ++ (begin ++ (second ++ (0xFF ∷ 0xD9 ∷ 0xFF ∷ 0xD9 ∷ []))))

apart_is : Page apart (first_records ++ second_records)
unfolding apart grey coloured start_of begin_of octets16 octets32
apart_is =
    record {
      head = head;
      optionals = [];
      stripes = (begin ++ first) ++ ((begin ++ second) ++ []);
      zeros = 0;
      octets = refl;
      good = record { mask = inr (inr (inr (inr refl))); image = inr refl; main = inr (inr (inr (inl refl))); width = (lit≤ tt, lit≤ tt) };
      optional = no_more;
      striped =
          next 40 (lit< tt) (record { begin = begin; rest = first; octets = refl; opens = short (lit< tt); behind = stripe_first })
          (next 30 (lit< tt) (record { begin = begin; rest = second; octets = refl; opens = short (lit< tt); behind = stripe_second })
          (last (lit< tt)));
    }

-- it is read to its last octet
pub page_apart : page_of apart ≡ ok (first_records ++ second_records) 223
unfolding apart grey coloured
page_apart = page_there apart (first_records ++ second_records) apart_is
