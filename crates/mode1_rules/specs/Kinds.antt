-- What a Mode 1 stripe says of itself: its type, and the records of its three layers (01, "The page, Mode 1").
--
--   stripe_body       the octets of a stripe's body: the fields of 9.3
--   has_back t, has_mask t, has_fore t   the layers that a type names
--   type_ok hd t      the type is taken, and names no layer whose coder octet is 0
--   image_record      the record of an image layer; mask_record: of layer 2
use Rattle.std.specs.Prelude.{ℕ, ◌/◌, ◌%◌, Bool, ◌&&◌, ◌||◌, not, [], ◌∷◌, eqb, leb, Option, Some, None}
use Rattle.laws.specs.Tests.{among}
use Rattle.sheet_rules.specs.declared.Colour.{Colour}
use Rattle.sheet_rules.specs.declared.Record.{Record}
use Rattle.jpeg_rules.specs.Said.{grey_octet}
use Rattle.start_rules.specs.declared.Head.{Head}
use Rattle.mode1_rules.specs.declared.LayerData.{LayerData}

abbrev pub stripe_body : ℕ
stripe_body = 31

-- bit 0 background, bit 1 mask, bit 2 foreground
abbrev pub has_back : ℕ → Bool
has_back t = eqb (t % 2) 1

abbrev pub has_mask : ℕ → Bool
has_mask t = eqb (t / 2 % 2) 1

abbrev pub has_fore : ℕ → Bool
has_fore t = eqb (t / 4 % 2) 1

unfoldable pub type_ok : Head → ℕ → Bool
unfolding among
type_ok hd t =
    among (1 ∷ 2 ∷ 3 ∷ 4 ∷ 6 ∷ 7 ∷ []) t && (not (has_mask t) || not (eqb hd.mask 0)) && (not (has_back t || has_fore t) || not (eqb hd.image 0))

-- a present layer's offsets are at most 65,535; an absent layer's are not judged
abbrev pub offset_ok : Bool → ℕ → ℕ → Bool
offset_ok present x y = not present || leb x 65535 && leb y 65535

-- ---- records

-- an image layer: its own size, resolution and count of components where it is coded, and else nothing but its base colour
unfoldable pub image_record : Head → ℕ → ℕ → Colour → ℕ → ℕ → Option LayerData → Record
image_record hd k l base x y (Some c) =
    record {
      stripe = k;
      layer = l;
      coder = 1;
      x = x;
      y = y;
      width = c.said.width;
      height = c.said.height;
      res = c.said.res;
      base0 = base.c0;
      base1 = base.c1;
      base2 = base.c2;
      octet17 = grey_octet c.said.components;
      start = c.start;
      len = c.size;
      octets26 = 0;
    }
image_record hd k l base x y None =
    record {
      stripe = k;
      layer = l;
      coder = 0;
      x = 0;
      y = 0;
      width = 0;
      height = 0;
      res = hd.main;
      base0 = base.c0;
      base1 = base.c1;
      base2 = base.c2;
      octet17 = 0;
      start = 0;
      len = 0;
      octets26 = 0;
    }

-- layer 2: the page's width, the stripe's height and the main resolution, coded or not
unfoldable pub mask_record : Head → ℕ → ℕ → ℕ → ℕ → ℕ → Record
mask_record hd k height coder start size =
    record {
      stripe = k;
      layer = 2;
      coder = coder;
      x = 0;
      y = 0;
      width = hd.width;
      height = height;
      res = hd.main;
      base0 = 0;
      base1 = 0;
      base2 = 0;
      octet17 = 0;
      start = start;
      len = size;
      octets26 = 0;
    }
