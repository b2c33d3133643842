-- When a Mode 1 stripe is refused, from the first octet of its body on, with which number and where (01, "Numbers that a call returns"): what is in front
-- stands there, and what comes next is cut short, or is there and is not as it must be. No step of the reading is in it.
--
--   Typed hd t       a type that may stand there
--   Placed           an offset that may: a present layer's are at most 65,535
--   BadFields        the fields
--   BadImage         an image layer that the type names: by the layer's own sentences
--   BadLayers        the coded layers: the mask cut short, or an image layer
--   BadStripeRest    the stripe
use Rattle.std.specs.Prelude.{ℕ, ◌+◌, ◌≤◌, ◌<◌, ◌≡◌, ◌⊎◌, ◌≢◌, Bool, true, false, List, [], ◌∷◌, ◌++◌, length, get_or, Option}
use Rattle.octets.specs.Octets.{octets32}
use Rattle.answers.specs.declared.Refusal.{Refusal}
use Rattle.answers.specs.declared.Refusal.TheVariants.{Short, BadType, BadStripe}
use Rattle.field_rules.specs.Field.{one, four}
use Rattle.field_rules.specs.Fault.{BadNumbers, the}
use Rattle.sheet_rules.specs.declared.Colour.{Colour}
use Rattle.jpeg_rules.specs.declared.Fault.{Fault}
use Rattle.jpeg_rules.specs.Faults.{BadLayer}
use Rattle.start_rules.specs.declared.Head.{Head}
use Rattle.mode1_rules.specs.declared.Fields.{Fields}
use Rattle.mode1_rules.specs.declared.LayerData.{LayerData}
use Rattle.mode1_rules.specs.Kinds.{stripe_body, has_back, has_mask, has_fore}
use Rattle.mode1_rules.specs.Grammar.{colour_of, fields_of, TypeOf, Widths, GoodFields, Image}
use Rattle.mode1_rules.specs.Reading.{fault_of}

-- one of the six types, which names no layer whose coder octet is 0
pub record Typed (hd : Head) (t : ℕ) : Type 0 where
  pub kind : TypeOf t
  pub mask_coder : has_mask t ≡ true → hd.mask ≢ 0
  pub image_coder : (has_back t ≡ true) ⊎ (has_fore t ≡ true) → hd.image ≢ 0

abbrev pub Placed : Bool → List ℕ → Type 0
Placed present vs = present ≡ true → (get_or vs 0 0 ≤ 65535) × (get_or vs 1 0 ≤ 65535)

-- the mask length is zero exactly when the type has no mask
abbrev pub Masked : ℕ → ℕ → Type 0
Masked t n = (has_mask t ≡ true → n ≡ 0 → ⊥) × (has_mask t ≡ false → n ≡ 0)

-- three octets of a colour
pub record Octets3 (c : Colour) : Type 0 where
  pub c0 : c.c0 < 256
  pub c1 : c.c1 < 256
  pub c2 : c.c2 < 256

module _ (hd : Head) (left at : ℕ) where
  -- the fields in front: up to the base colours, and up to the offsets
  pub record Coloured (front : List ℕ) (t : ℕ) : Type 0 where
    pub back : Colour
    pub fore : Colour
    pub octets : front ≡ t ∷ colour_of back ++ colour_of fore
    pub octet : t < 256
    pub typed : Typed hd t
    pub back_octets : Octets3 back
    pub fore_octets : Octets3 fore

  pub data BadFields : List ℕ → Refusal → Type 0 where
    bad_type : {l : List ℕ} {x : Refusal} → BadNumbers (one ∷ []) (the (Typed hd)) BadType at l x → BadFields l x
    cut_back : (t : ℕ) (rest : List ℕ) → t < 256 → Typed hd t → length rest < 3 → BadFields (t ∷ rest) (Short (at + 1))
    cut_fore : (t : ℕ) (back : Colour) (rest : List ℕ) → t < 256 → Typed hd t → Octets3 back → length rest < 3
        → BadFields (t ∷ colour_of back ++ rest) (Short (at + 4))
    bad_back_offset : {x : Refusal} (t : ℕ) (front rest : List ℕ) → Coloured front t
        → BadNumbers (four ∷ four ∷ []) (Placed (has_back t)) BadStripe (at + 7) rest x → BadFields (front ++ rest) x
    bad_fore_offset : {x : Refusal} (t bx by : ℕ) (front rest : List ℕ) → Coloured front t
        → bx < 4294967296 → by < 4294967296 → Placed (has_back t) (bx ∷ by ∷ [])
        → BadNumbers (four ∷ four ∷ []) (Placed (has_fore t)) BadStripe (at + 15) rest x → BadFields (front ++ (octets32 bx ++ (octets32 by ++ rest))) x
    bad_height : {x : Refusal} (t bx by fx fy : ℕ) (front rest : List ℕ) → Coloured front t
        → bx < 4294967296 → by < 4294967296 → fx < 4294967296 → fy < 4294967296 → Placed (has_back t) (bx ∷ by ∷ []) → Placed (has_fore t) (fx ∷ fy ∷ [])
        → BadNumbers (four ∷ []) (the (λ (h : ℕ). (1 ≤ h) × (h ≤ left))) BadStripe (at + 23) rest x
        → BadFields (front ++ (octets32 bx ++ (octets32 by ++ (octets32 fx ++ (octets32 fy ++ rest))))) x
    bad_mask_length : {x : Refusal} (t bx by fx fy h : ℕ) (front rest : List ℕ) → Coloured front t
        → bx < 4294967296 → by < 4294967296 → fx < 4294967296 → fy < 4294967296 → Placed (has_back t) (bx ∷ by ∷ []) → Placed (has_fore t) (fx ∷ fy ∷ [])
        → h < 4294967296 → (1 ≤ h) × (h ≤ left)
        → BadNumbers (four ∷ []) (the (Masked t)) BadStripe (at + 27) rest x
        → BadFields (front ++ (octets32 bx ++ (octets32 by ++ (octets32 fx ++ (octets32 fy ++ (octets32 h ++ rest)))))) x

-- ---- the coded layers

pub data BadImage (main at : ℕ) : Bool → List ℕ → Refusal → Type 0 where
  bad_image : {l : List ℕ} {f : Fault} → BadLayer main at l f → BadImage main at true l (fault_of f)

module _ (hd : Head) (f : Fields) (at : ℕ) where
  pub data BadLayers : List ℕ → Refusal → Type 0 where
    cut_mask : {l : List ℕ} → length l < f.mask_length → BadLayers l (Short at)
    bad_back : {x : Refusal} (mask rest : List ℕ) → length mask ≡ f.mask_length → BadImage hd.main (at + length mask) (has_back f.kind) rest x
        → BadLayers (mask ++ rest) x
    bad_fore : {x : Refusal} (mask back rest : List ℕ) (c : Option LayerData) → length mask ≡ f.mask_length
        → Image hd.main (at + length mask) (has_back f.kind) back c
        → BadImage hd.main (at + length mask + length back) (has_fore f.kind) rest x → BadLayers (mask ++ (back ++ rest)) x

-- ---- the stripe

pub data BadStripeRest (hd : Head) (left at : ℕ) : List ℕ → Refusal → Type 0 where
  bad_fields : {l : List ℕ} {x : Refusal} → BadFields hd left at l x → BadStripeRest hd left at l x
  bad_layers : {x : Refusal} (f : Fields) (rest : List ℕ) → Widths f → GoodFields hd left f → BadLayers hd f (at + stripe_body) rest x
      → BadStripeRest hd left at (fields_of f ++ rest) x
