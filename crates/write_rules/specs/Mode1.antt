-- Mode 1's own of a stripe that is written (T.44 9.3; 01, "The page, Mode 1"): what other modes have otherwise.
--
--   head1 r            a stripe's segment takes 39 octets, 31 of them its body, counted at its first layer
--   type_by, colour_by   a stripe's type by which of its layers are coded, and a record's base colour
--   fields_by a b c     the fields of a stripe whose layers 1 to 3 have the records a, b and c
--   layer_in q l        the record of layer l of a stripe
--   begins             a stripe's segment up to its body
--   rest1 d q          what stands from its body on, where its records are q, with its coded layers out of the buffer d; stripe1: the whole
--   Trimmed f          in a stripe's fields an absent layer's offsets are 0
use Rattle.std.specs.Prelude.{ℕ, ◌+◌, ◌-◌, ◌≡◌, Bool, false, List, ◌++◌, eqb}
use Rattle.laws.specs.Tests.{only}
use Rattle.sheet_rules.specs.declared.Colour.{Colour}
use Rattle.sheet_rules.specs.declared.Record.{Record}
use Rattle.sheet_rules.specs.Record.{nth}
use Rattle.sheet_rules.specs.Judge.{coded}
use Rattle.mode1_rules.specs.Kinds.{stripe_body, has_back, has_fore}
use Rattle.mode1_rules.specs.declared.Fields.{Fields}
use Rattle.segment_rules.specs.Segment.{begin_of}
use Rattle.mode1_rules.specs.Grammar.{fields_of}
use Rattle.write_rules.specs.Layer.{layer_octets}

abbrev pub head1 : Record → ℕ
head1 r = only (eqb r.layer 1) 39

-- bit 0 background, bit 1 mask, bit 2 foreground: the layers that are coded
abbrev pub type_by : Bool → Bool → Bool → ℕ
type_by back mask fore = only back 1 + only mask 2 + only fore 4

abbrev pub colour_by : Record → Colour
colour_by r = record { c0 = r.base0; c1 = r.base1; c2 = r.base2 }

-- an absent layer's offsets are 0 in its record
abbrev pub fields_by : Record → Record → Record → Fields
fields_by a b c =
    record {
      kind = type_by (coded a) (coded b) (coded c);
      back = colour_by a;
      fore = colour_by c;
      back_x = a.x;
      back_y = a.y;
      fore_x = c.x;
      fore_y = c.y;
      height = b.height;
      mask_length = b.len;
    }

abbrev pub layer_in : List Record → ℕ → Record
layer_in q l = nth q (l - 1)

abbrev pub begins : List ℕ
begins = begin_of 0x01 (stripe_body + 6)

-- after the fields the coded layers present: mask, background, foreground; of an absent one there are no octets
unfoldable pub rest1 : List ℕ → List Record → List ℕ
rest1 d q =
    fields_of (fields_by (layer_in q 1) (layer_in q 2) (layer_in q 3))
    ++ (layer_octets d (layer_in q 2) ++ (layer_octets d (layer_in q 1) ++ layer_octets d (layer_in q 3)))

unfoldable pub stripe1 : List ℕ → List Record → List ℕ
unfolding rest1
stripe1 d q = begins ++ rest1 d q

-- ---- the writer's form, of a page's stripe

pub record Trimmed (f : Fields) : Type 0 where
  pub back : has_back f.kind ≡ false → (f.back_x ≡ 0) × (f.back_y ≡ 0)
  pub fore : has_fore f.kind ≡ false → (f.fore_x ≡ 0) × (f.fore_y ≡ 0)
