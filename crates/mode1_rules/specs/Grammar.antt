-- A Mode 1 stripe by concatenation, from the first octet of its body on, to be read beside 9.3 of T.44: its fields, then its coded layers.
--
--   fields_of f       the fields of a stripe
--   Widths, GoodFields   what they may be
--   Image            an image layer of a stripe, or none where the type names none, and what is known of it
--   records_of        the records of its layers
--   Stripe hd k left at ..   a stripe of number k, with so much of the page's height left, whose body stands at a place of the page
use Rattle.std.specs.Prelude.{ℕ, ◌+◌, ◌≤◌, ◌<◌, ◌≡◌, ◌⊎◌, ◌≢◌, Bool, true, false, cond, List, [], ◌∷◌, ◌++◌, length, Option, Some, None}
use Rattle.octets.specs.Octets.{octets32}
use Rattle.sheet_rules.specs.declared.Colour.{Colour}
use Rattle.sheet_rules.specs.declared.Record.{Record}
use Rattle.jpeg_rules.specs.declared.Said.{Said}
use Rattle.jpeg_rules.specs.Grammar.{Layer}
use Rattle.start_rules.specs.declared.Head.{Head}
use Rattle.mode1_rules.specs.declared.Fields.{Fields}
use Rattle.mode1_rules.specs.declared.LayerData.{LayerData}
use Rattle.mode1_rules.specs.Kinds.{stripe_body, has_back, has_mask, has_fore, image_record, mask_record}

unfoldable pub colour_of : Colour → List ℕ
colour_of c = c.c0 ∷ c.c1 ∷ c.c2 ∷ []

-- type, base colours, offsets, height, mask length
unfoldable pub fields_of : Fields → List ℕ
fields_of f =
    f.kind
    ∷ colour_of f.back ++ (colour_of f.fore ++ (octets32 f.back_x ++ (octets32 f.back_y ++ (octets32 f.fore_x ++ (octets32 f.fore_y
    ++ (octets32 f.height ++ octets32 f.mask_length))))))

-- each number of a stripe is one of its field's width
pub record Widths (f : Fields) : Type 0 where
  pub kind : f.kind < 256
  pub back : (f.back.c0 < 256) × (f.back.c1 < 256) × (f.back.c2 < 256)
  pub fore : (f.fore.c0 < 256) × (f.fore.c1 < 256) × (f.fore.c2 < 256)
  pub offsets : (f.back_x < 4294967296) × (f.back_y < 4294967296) × (f.fore_x < 4294967296) × (f.fore_y < 4294967296)
  pub mask_length : f.mask_length < 4294967296

abbrev pub TypeOf : ℕ → Type 0
TypeOf t = (t ≡ 1) ⊎ (t ≡ 2) ⊎ (t ≡ 3) ⊎ (t ≡ 4) ⊎ (t ≡ 6) ⊎ (t ≡ 7)

pub record GoodFields (hd : Head) (left : ℕ) (f : Fields) : Type 0 where
  pub kind : TypeOf f.kind
  -- the type names no layer whose coder octet is 0
  pub mask_coder : has_mask f.kind ≡ true → hd.mask ≢ 0
  pub image_coder : (has_back f.kind ≡ true) ⊎ (has_fore f.kind ≡ true) → hd.image ≢ 0
  -- a present layer's offsets are at most 65,535; an absent layer's are not judged
  pub back : has_back f.kind ≡ true → (f.back_x ≤ 65535) × (f.back_y ≤ 65535)
  pub fore : has_fore f.kind ≡ true → (f.fore_x ≤ 65535) × (f.fore_y ≤ 65535)
  pub height : (1 ≤ f.height) × (f.height ≤ left)
  -- the mask length is zero exactly when the type has no mask
  pub mask : (has_mask f.kind ≡ true → f.mask_length ≡ 0 → ⊥) × (has_mask f.kind ≡ false → f.mask_length ≡ 0)

-- an image layer that the type names is a JPEG layer at a place of the page; one that it does not name has no octets
pub data Image (main at : ℕ) : Bool → List ℕ → Option LayerData → Type 0 where
  there : {l : List ℕ} {said : Said} → Layer main l said → Image main at true l (Some (record { start = at; size = length l; said = said }))
  absent : Image main at false [] None

-- the records of a stripe: the mask's data stands after the head, then the background's, then the foreground's
abbrev pub records_of : Head → ℕ → Fields → ℕ → Option LayerData → Option LayerData → List Record
records_of hd k f at back fore =
    image_record hd k 1 f.back f.back_x f.back_y back
    ∷ mask_record hd k f.height (cond (has_mask f.kind) hd.mask 0) (cond (has_mask f.kind) at 0) f.mask_length
    ∷ image_record hd k 3 f.fore f.fore_x f.fore_y fore ∷ []

pub record Stripe (hd : Head) (k left at : ℕ) (l : List ℕ) (height : ℕ) (rs : List Record) : Type 0 where
  pub fields : Fields
  pub mask : List ℕ
  pub back : List ℕ
  pub fore : List ℕ
  pub back_is : Option LayerData
  pub fore_is : Option LayerData
  pub octets : l ≡ fields_of fields ++ (mask ++ (back ++ fore))
  pub widths : Widths fields
  pub good : GoodFields hd left fields
  pub size : length mask ≡ fields.mask_length
  pub back_there : Image hd.main (at + stripe_body + length mask) (has_back fields.kind) back back_is
  pub fore_there : Image hd.main (at + stripe_body + length mask + length back) (has_fore fields.kind) fore fore_is
  pub tall : height ≡ fields.height
  pub records : rs ≡ records_of hd k fields (at + stripe_body) back_is fore_is
