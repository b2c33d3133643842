-- Any two results that a promise allows are equal, of the part its octets and where they lie.
-- Assumes nothing.
use Prim.Native.Nat.{ℕ}
use mathlib.Core.Path.{◌≡◌, sym, ◌∙◌}
use mathlib.Core.List.{List}
use denote.Ref.{Bor}
use Rattle.std.specs.Prelude.{Result}
use Rattle.answers.specs.declared.Refusal.{Refusal}
use Rattle.data_rules.specs.declared.Part.{Part}
use Rattle.data_rules.specs.Data.{found_of}
use Rattle.data_find.specs.Handed.{HandsPart}

pub part_firm : (s : List ℕ) (page pencil : Bor (List ℕ)) (k l : ℕ) (r q : Bor (List ℕ)) → HandsPart s page pencil k l r → HandsPart s page pencil k l q
    → (r.now ≡ q.now) × (r.ref_ptr ≡ q.ref_ptr)
part_firm s page pencil k l r q x y = (x.octets ∙ sym y.octets, x.place ∙ sym y.place)

module _ (s page pencil : List ℕ) (k l : ℕ) where
  pub found_firm : (f g : Result Part Refusal) → f ≡ found_of s page pencil k l → g ≡ found_of s page pencil k l → f ≡ g
  found_firm f g x y = x ∙ sym y
