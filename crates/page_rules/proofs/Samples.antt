-- Pages to compute with: the octets of a page of one stripe that has only a mask, and what a page of every layer says.
--
--   head, stripe, coded-mask   four by two at 200: only a mask, by coder 4, of five octets; white and black around it
--   stripe_head                 the beginning of a stripe and its fields
--   page                       the page of that one stripe
--   colours, typed             a page of all coders, and a stripe of a type with a mask of so many octets
--
-- Assumes nothing.
use Prim.Native.Nat.{ℕ}
use mathlib.Core.List.{List, [], ◌∷◌, ◌++◌}
use Rattle.segment_rules.specs.Rules.{mode1}
use Rattle.segment_rules.specs.Segment.{begin_of}
use Rattle.start_rules.specs.declared.Head.{Head}
use Rattle.start_rules.specs.Grammar.{start_of}
use Rattle.body_rules.specs.Body.{end_mark}
use Rattle.mode1_rules.specs.declared.Fields.{Fields}
use Rattle.mode1_rules.specs.Grammar.{fields_of}

abbrev pub head : Head
head = record { rules = mode1; mask = 4; image = 0; main = 200; width = 4 }

abbrev pub stripe : Fields
stripe =
    record {
      kind = 2;
      back = record { c0 = 0xFF; c1 = 0x80; c2 = 0x60 };
      fore = record { c0 = 0x00; c1 = 0x80; c2 = 0x60 };
      back_x = 0;
      back_y = 0;
      fore_x = 0;
      fore_y = 0;
      height = 2;
      mask_length = 5;
    }

abbrev pub coded_mask : List ℕ
coded_mask = 1 ∷ 2 ∷ 3 ∷ 4 ∷ 5 ∷ []

abbrev pub stripe_head : Fields → List ℕ
stripe_head f = begin_of 0x01 37 ++ fields_of f

unfoldable pub page : List ℕ
page = start_of head ++ (stripe_head stripe ++ (coded_mask ++ (end_mark ++ end_mark)))

unfoldable pub colours : Head
colours = record { rules = mode1; mask = 8; image = 1; main = 400; width = 100 }

unfoldable pub typed : ℕ → ℕ → Fields
typed t n =
    record {
      kind = t;
      back = record { c0 = 0xFF; c1 = 0x80; c2 = 0x60 };
      fore = record { c0 = 0x00; c1 = 0x80; c2 = 0x60 };
      back_x = 2;
      back_y = 3;
      fore_x = 4;
      fore_y = 5;
      height = 40;
      mask_length = n;
    }
