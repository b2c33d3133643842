-- Reading a Mode 1 stripe from the first octet of its body on (01, "The page, Mode 1" and "Numbers that a call returns").
--
--   stripe_table      its fields, in their order: an offset is one field of eight octets; type_in: the type among the numbers read
--   fields_from       what its numbers say, in the same order
--   walked           an image layer where the type names one
--   layers_of         the coded layers, and the records
--   stripe_read       the stripe: its height and its records
use Rattle.std.specs.Prelude.{ℕ, ◌-◌, Bool, not, cond, List, [], ◌∷◌, get_or, eqb, Option, Some, None, Result, Ok, Err}
use Rattle.answers.specs.declared.Refusal.{Refusal}
use Rattle.answers.specs.declared.Refusal.TheVariants.{Short, BadLength, BadRes, BadType, BadStripe, BadLayer}
use Rattle.field_rules.specs.Field.{Res, ok, no, bind, one, four, Field, val, fields, is, any}
use Rattle.field_rules.specs.Part.{span_of}
use Rattle.sheet_rules.specs.declared.Record.{Record}
use Rattle.jpeg_rules.specs.declared.Fault.{Fault}
use Rattle.jpeg_rules.specs.declared.Fault.TheVariants as F
use Rattle.jpeg_rules.specs.declared.Said.{Said}
use Rattle.mode1_rules.specs.declared.LayerData.{LayerData}
use Rattle.laws.specs.Tests.{within}
use Rattle.jpeg_rules.specs.Walk.{walk_of}
use Rattle.start_rules.specs.declared.Head.{Head}
use Rattle.body_rules.specs.Body.{Item, striped}
use Rattle.mode1_rules.specs.declared.Fields.{Fields}
use Rattle.mode1_rules.specs.Kinds.{has_back, has_mask, has_fore, type_ok, offset_ok}
use Rattle.mode1_rules.specs.Grammar.{records_of}

-- ---- the fields

-- the type is the first number
abbrev pub type_in : List ℕ → ℕ
type_in vs = get_or vs 0 0

abbrev pub mask_length_ok : ℕ → ℕ → Bool
mask_length_ok t n = cond (has_mask t) (not (eqb n 0)) (eqb n 0)

unfoldable pub stripe_table : Head → ℕ → List Field
stripe_table hd left =
    val (one ∷ []) (is (type_ok hd)) BadType
    ∷ val (one ∷ one ∷ one ∷ []) any BadStripe
    ∷ val (one ∷ one ∷ one ∷ []) any BadStripe
    ∷ val (four ∷ four ∷ []) (λ (before vs : List ℕ). offset_ok (has_back (type_in before)) (get_or vs 0 0) (get_or vs 1 0)) BadStripe
    ∷ val (four ∷ four ∷ []) (λ (before vs : List ℕ). offset_ok (has_fore (type_in before)) (get_or vs 0 0) (get_or vs 1 0)) BadStripe
    ∷ val (four ∷ []) (is (within 1 left)) BadStripe
    ∷ val (four ∷ []) (λ (before vs : List ℕ). mask_length_ok (type_in before) (get_or vs 0 0)) BadStripe
    ∷ []

abbrev pub fields_from : List ℕ → Fields
fields_from vs =
    record {
      kind = type_in vs;
      back = record { c0 = get_or vs 1 0; c1 = get_or vs 2 0; c2 = get_or vs 3 0 };
      fore = record { c0 = get_or vs 4 0; c1 = get_or vs 5 0; c2 = get_or vs 6 0 };
      back_x = get_or vs 7 0;
      back_y = get_or vs 8 0;
      fore_x = get_or vs 9 0;
      fore_y = get_or vs 10 0;
      height = get_or vs 11 0;
      mask_length = get_or vs 12 0;
    }

-- ---- the coded layers

-- the walk's refusal as an answer
unfoldable pub fault_of : Fault → Refusal
fault_of (F.Short p) = Short p
fault_of (F.BadLength p) = BadLength p
fault_of (F.BadRes p) = BadRes p
fault_of (F.BadLayer p) = BadLayer p

unfoldable pub on_walk : Result (ℕ × Said) Fault → ℕ → Res (Option LayerData)
unfolding fault_of
on_walk (Ok (next, said)) at = ok (Some (record { start = at; size = next - at; said = said })) next
on_walk (Err f) at = no (fault_of f)

unfoldable pub walked : List ℕ → ℕ → Bool → ℕ → Res (Option LayerData)
unfolding on_walk
walked s main present at = cond present (on_walk (walk_of s at main) at) (ok None at)

unfoldable pub layers_of : Head → ℕ → Fields → List ℕ → ℕ → Res (List Record)
unfolding bind span_of walked
layers_of hd k f s at =
    bind (span_of s at f.mask_length) (λ (n p : ℕ).
    bind (walked s hd.main (has_back f.kind) p) (λ (back : Option LayerData) (q : ℕ).
    bind (walked s hd.main (has_fore f.kind) q) (λ (fore : Option LayerData) (e : ℕ).
    ok (records_of hd k f at back fore) e)))

-- ---- the stripe

unfoldable pub stripe_read : Head → ℕ → ℕ → List ℕ → ℕ → Res Item
unfolding bind layers_of
stripe_read hd k left s at =
    bind (fields (stripe_table hd left) [] s at) (λ (vs : List ℕ) (n : ℕ).
    bind (layers_of hd k (fields_from vs) s n) (λ (rs : List Record) (e : ℕ). ok (striped (fields_from vs).height rs) e))
