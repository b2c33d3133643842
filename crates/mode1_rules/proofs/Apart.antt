-- Two stripes whose octets tell every field apart: their types, offsets, colours, sizes and starts are all different. They are written octet by octet and
-- their records number by number, so that no two fields can be exchanged, not even in reading and in the grammar at once.
--
--   grey, coloured              a JPEG layer of one component, 8 by 16 samples at 200, and one of three, 7 by 12 at 100
--   head                        what the page says: coders 8 and 1, 400 to the inch, a width of 100
--   first, first-records        a stripe of all three layers whose body stands at octet 30 of a page
--   second, second-records      the stripe behind it, at 148, which has only a foreground
--
-- Assumes nothing.
use Prim.Native.Nat.{ℕ, zero, suc}
use native.Mathlib.Omega.{arith}
use mathlib.Core.Path.{◌≡◌, refl, sym}
use mathlib.Core.Logic.{inl, inr}
use mathlib.Core.Bool.{Bool, true, false, ◌&&◌, false≢true}
use mathlib.Core.List.{List, [], ◌∷◌, ◌++◌}
use lib.Dec.{lit<, lit≤, ltb}
use borrow.Author.Tests.{ltb-true}
use Rattle.octets.specs.Octets.{Octets, be16_at, begins, stands_at, octets16, octets32}
use Rattle.sheet_rules.specs.declared.Record.{Record}
use Rattle.jpeg_rules.specs.declared.Said.{Said}
use Rattle.jpeg_rules.specs.Said.{grey_octet}
use Rattle.jpeg_rules.specs.Grammar.{Layer}
use Rattle.jpeg_rules.specs.Marker.{class_of, marker_of}
use Rattle.jpeg_rules.specs.Walk.{seg_of, scan_of, tag_of, frame_body_of, frame_of, scan_step_of, segment_of, end_of, turn_of, walk_of}
use Rattle.jpeg_rules.proofs.Theorems.{walk_exactly}
use Rattle.segment_rules.specs.Rules.{mode1}
use Rattle.start_rules.specs.declared.Head.{Head}
use Rattle.mode1_rules.specs.declared.Fields.{Fields}
use Rattle.std.specs.Prelude.{Some, None}
use Rattle.mode1_rules.specs.Kinds.{image_record, mask_record}
use Rattle.mode1_rules.specs.Grammar.{colour_of, fields_of, there, absent, Stripe}

-- ---- the octets

unfoldable pub grey : List ℕ
grey =
    0xFF ∷ 0xD8
    ∷ 0xFF ∷ 0xE1 ∷ 0x00 ∷ 0x0C ∷ 0x47 ∷ 0x33 ∷ 0x46 ∷ 0x41 ∷ 0x58 ∷ 0x00 ∷ 0x00 ∷ 0x01 ∷ 0x00 ∷ 0xC8
    ∷ 0xFF ∷ 0xC0 ∷ 0x00 ∷ 0x08 ∷ 0x08 ∷ 0x00 ∷ 0x10 ∷ 0x00 ∷ 0x08 ∷ 0x01
    ∷ 0xFF ∷ 0xDA ∷ 0x00 ∷ 0x03 ∷ 0x00 ∷ 0x12 ∷ 0xFF ∷ 0x00 ∷ 0x34 ∷ 0xFF ∷ 0xD0 ∷ 0x56
    ∷ 0xFF ∷ 0xD9 ∷ []

unfoldable pub coloured : List ℕ
coloured =
    0xFF ∷ 0xD8
    ∷ 0xFF ∷ 0xE1 ∷ 0x00 ∷ 0x0C ∷ 0x47 ∷ 0x33 ∷ 0x46 ∷ 0x41 ∷ 0x58 ∷ 0x00 ∷ 0x00 ∷ 0x01 ∷ 0x00 ∷ 0x64
    ∷ 0xFF ∷ 0xC0 ∷ 0x00 ∷ 0x08 ∷ 0x08 ∷ 0x00 ∷ 0x0C ∷ 0x00 ∷ 0x07 ∷ 0x03
    ∷ 0xFF ∷ 0xDA ∷ 0x00 ∷ 0x03 ∷ 0x01 ∷ 0x12
    ∷ 0xFF ∷ 0xD9 ∷ []

abbrev pub coded_mask : List ℕ
coded_mask = 1 ∷ 2 ∷ 3 ∷ 4 ∷ 5 ∷ []

-- type 7: the background's colour and the foreground's, the offsets 2 3 and 4 5, 40 lines, a mask of 5 octets
unfoldable pub first : List ℕ
unfolding grey coloured
first =
    0x07 ∷ 11 ∷ 12 ∷ 13 ∷ 14 ∷ 15 ∷ 16
    ∷ 0x00 ∷ 0x00 ∷ 0x00 ∷ 0x02 ∷ 0x00 ∷ 0x00 ∷ 0x00 ∷ 0x03 ∷ 0x00 ∷ 0x00 ∷ 0x00 ∷ 0x04 ∷ 0x00 ∷ 0x00 ∷ 0x00 ∷ 0x05
    ∷ 0x00 ∷ 0x00 ∷ 0x00 ∷ 0x28 ∷ 0x00 ∷ 0x00 ∷ 0x00 ∷ 0x05 ∷ coded_mask ++ (grey ++ coloured)

-- type 4: the absent background's offsets are not looked at, the foreground's are 262 and 519, 30 lines, no mask
unfoldable pub second : List ℕ
unfolding grey
second =
    0x04 ∷ 21 ∷ 22 ∷ 23 ∷ 24 ∷ 25 ∷ 26
    ∷ 0x00 ∷ 0x00 ∷ 0x00 ∷ 0x08 ∷ 0x00 ∷ 0x00 ∷ 0x00 ∷ 0x09 ∷ 0x00 ∷ 0x00 ∷ 0x01 ∷ 0x06 ∷ 0x00 ∷ 0x00 ∷ 0x02 ∷ 0x07
    ∷ 0x00 ∷ 0x00 ∷ 0x00 ∷ 0x1E ∷ 0x00 ∷ 0x00 ∷ 0x00 ∷ 0x00 ∷ grey

-- ---- the records

-- the fields in the sheet's order, octets 26 and 27 being 0
abbrev record_with : ℕ → ℕ → ℕ → ℕ → ℕ → ℕ → ℕ → ℕ → ℕ → ℕ → ℕ → ℕ → ℕ → ℕ → Record
record_with stripe layer coder x y width height res base0 base1 base2 octet17 start len =
    record {
      stripe = stripe;
      layer = layer;
      coder = coder;
      x = x;
      y = y;
      width = width;
      height = height;
      res = res;
      base0 = base0;
      base1 = base1;
      base2 = base2;
      octet17 = octet17;
      start = start;
      len = len;
      octets26 = 0;
    }

abbrev pub first_records : List Record
first_records =
    record_with 0 1 1 2 3 8 16 200 11 12 13 1 66 40
    ∷ record_with 0 2 8 0 0 100 40 400 0 0 0 0 61 5
    ∷ record_with 0 3 1 4 5 7 12 100 14 15 16 0 106 34 ∷ []

abbrev pub second_records : List Record
second_records =
    record_with 1 1 0 0 0 0 0 400 21 22 23 0 0 0
    ∷ record_with 1 2 0 0 0 100 30 400 0 0 0 0 0 0
    ∷ record_with 1 3 1 262 519 8 16 200 24 25 26 1 179 40 ∷ []

-- ---- the two JPEG layers, by the walk, which is tied to their grammar

unfoldable small : List ℕ → Bool
small [] = true
small (x ∷ s) = ltb x 256 && small s

and_both : (a b : Bool) → a && b ≡ true → (a ≡ true) × (b ≡ true)
and_both true b e = (refl, e)
and_both false b e = absurd (false≢true e)

octets_small : (s : List ℕ) → small s ≡ true → Octets s
unfolding small
octets_small [] e k = lit< tt
octets_small (x ∷ s) e zero = ltb-true x 256 (and_both (ltb x 256) (small s) e).0
octets_small (x ∷ s) e (suc k) = octets_small s (and_both (ltb x 256) (small s) e).1 k

abbrev grey_said : Said
grey_said = record { width = 8; height = 16; res = 200; components = 1 }

abbrev coloured_said : Said
coloured_said = record { width = 7; height = 12; res = 100; components = 3 }

grey_layer : Layer 400 grey grey_said
unfolding grey small walk_of turn_of marker_of class_of seg_of scan_of tag_of frame_of frame_body_of scan_step_of segment_of end_of stands_at begins be16_at
grey_layer = ((walk_exactly grey (octets_small grey refl) 0 400 40 grey_said).0 refl).layer

coloured_layer : Layer 400 coloured coloured_said
unfolding coloured small walk_of turn_of marker_of class_of seg_of scan_of tag_of frame_of frame_body_of scan_step_of segment_of end_of stands_at begins be16_at
coloured_layer = ((walk_exactly coloured (octets_small coloured refl) 0 400 34 coloured_said).0 refl).layer

-- ---- the stripes

abbrev pub head : Head
head = record { rules = mode1; mask = 8; image = 1; main = 400; width = 100 }

abbrev first_fields : Fields
first_fields =
    record {
      kind = 7;
      back = record { c0 = 11; c1 = 12; c2 = 13 };
      fore = record { c0 = 14; c1 = 15; c2 = 16 };
      back_x = 2;
      back_y = 3;
      fore_x = 4;
      fore_y = 5;
      height = 40;
      mask_length = 5;
    }

abbrev second_fields : Fields
second_fields =
    record {
      kind = 4;
      back = record { c0 = 21; c1 = 22; c2 = 23 };
      fore = record { c0 = 24; c1 = 25; c2 = 26 };
      back_x = 8;
      back_y = 9;
      fore_x = 262;
      fore_y = 519;
      height = 30;
      mask_length = 0;
    }

pub stripe_first : Stripe head 0 65535 30 first 40 first_records
unfolding first fields_of colour_of octets16 octets32 image_record mask_record grey_octet
stripe_first =
    record {
      fields = first_fields;
      mask = coded_mask;
      back = grey;
      fore = coloured;
      back_is = Some (record { start = 66; size = 40; said = grey_said });
      fore_is = Some (record { start = 106; size = 34; said = coloured_said });
      octets = refl;
      widths =
          record {
            kind = lit< tt;
            back = (lit< tt, lit< tt, lit< tt);
            fore = (lit< tt, lit< tt, lit< tt);
            offsets = (lit< tt, lit< tt, lit< tt, lit< tt);
            mask_length = lit< tt;
          };
      good =
          record {
            kind = inr (inr (inr (inr (inr refl))));
            mask_coder = λ e z. omega arith;
            image_coder = λ e z. omega arith;
            back = λ e. (lit≤ tt, lit≤ tt);
            fore = λ e. (lit≤ tt, lit≤ tt);
            height = (lit≤ tt, lit≤ tt);
            mask = (λ e z. omega arith, λ e. absurd (false≢true (sym e)));
          };
      size = refl;
      back_there = there grey_layer;
      fore_there = there coloured_layer;
      tall = refl;
      records = refl;
    }

pub stripe_second : Stripe head 1 65495 148 second 30 second_records
unfolding second fields_of colour_of octets16 octets32 image_record mask_record grey_octet
stripe_second =
    record {
      fields = second_fields;
      mask = [];
      back = [];
      fore = grey;
      back_is = None;
      fore_is = Some (record { start = 179; size = 40; said = grey_said });
      octets = refl;
      widths =
          record {
            kind = lit< tt;
            back = (lit< tt, lit< tt, lit< tt);
            fore = (lit< tt, lit< tt, lit< tt);
            offsets = (lit< tt, lit< tt, lit< tt, lit< tt);
            mask_length = lit< tt;
          };
      good =
          record {
            kind = inr (inr (inr (inl refl)));
            mask_coder = λ e. absurd (false≢true e);
            image_coder = λ e z. omega arith;
            back = λ e. absurd (false≢true e);
            fore = λ e. (lit≤ tt, lit≤ tt);
            height = (lit≤ tt, lit≤ tt);
            mask = (λ e. absurd (false≢true e), λ e. refl);
          };
      size = refl;
      back_there = absent;
      fore_there = there grey_layer;
      tall = refl;
      records = refl;
    }
