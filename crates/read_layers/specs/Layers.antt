-- The layers of a stripe, as their reader answers them.
--
--   Inside s at              a place of a page that is not too long
--   layer_of r                an image layer's reading
--   fore_of s main t back at  the foreground, after a background
--   layers_in s main t mask at  all of them, from the mask's first octet on
use Rattle.std.specs.Prelude.{ℕ, ◌≤◌, List, length, Option, Result, Ok, Err}
use Rattle.field_rules.specs.Field.{Res, ok, no}
use Rattle.field_rules.specs.Part.{span_of}
use Rattle.segment_rules.specs.Rules.{longest_page}
use Rattle.mode1_rules.specs.declared.LayerData.{LayerData}
use Rattle.mode1_rules.specs.Kinds.{has_back, has_fore}
use Rattle.mode1_rules.specs.Reading.{walked}
use Rattle.read_layers.specs.declared.Layer.{Layer}
use Rattle.read_layers.specs.declared.Layers.{Layers}
use Rattle.answers.specs.declared.Refusal.{Refusal}

pub record Inside (s : List ℕ) (at : ℕ) : Type 0 where
  pub within : at ≤ length s
  pub small : length s ≤ longest_page

unfoldable pub layer_of : Res (Option LayerData) → Result Layer Refusal
layer_of (ok c n) = Ok (record { coded = c; next = n })
layer_of (no a) = Err a

abbrev pub on_layer : {A : Type 0} → Res A → (A → ℕ → Result Layers Refusal) → Result Layers Refusal
on_layer (ok c n) go = go c n
on_layer (no a) go = Err a

unfoldable pub fore_of : List ℕ → ℕ → ℕ → Option LayerData → ℕ → Result Layers Refusal
fore_of s main t back at = on_layer (walked s main (has_fore t) at) (λ (fore : Option LayerData) (e : ℕ). Ok (record { back = back; fore = fore; next = e }))

unfoldable pub layers_in : List ℕ → ℕ → ℕ → ℕ → ℕ → Result Layers Refusal
unfolding fore_of
layers_in s main t mask at =
    on_layer (span_of s at mask) (λ (n p : ℕ). on_layer (walked s main (has_back t) p) (λ (back : Option LayerData) (q : ℕ). fore_of s main t back q))
