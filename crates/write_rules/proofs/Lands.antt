-- The stripes that are written are stripes of the grammar, with the records that were lent but for their starts, and with their data: along the
-- stripes, by the laws of one (Modes.antt).
-- Assumes nothing.
use Prim.Native.Nat.{ℕ, ◌+◌, ◌≤◌}
use native.Mathlib.Omega.{arith}
use mathlib.Core.Path.{◌≡◌, refl, sym, ap₂, ◌∙◌}
use mathlib.Core.List.{List, [], ◌∷◌, ◌++◌, map, map-append, append_assoc}
use lib.Dec.{lit<}
use lib.ListN.{length, drop, length-append}
use Rattle.octets.specs.Octets.{Octets}
use Rattle.octets.specs.Entries.{joined}
use Rattle.octets.proofs.Laws.{drop_next, octets_append}
use Rattle.segment_rules.specs.declared.Mode.{Mode}
use Rattle.sheet_rules.specs.declared.Record.{Record}
use Rattle.sheet_rules.specs.Record.{sum_of}
use Rattle.sheet_rules.specs.Sentences.{Among, heights}
use Rattle.sheet_rules.proofs.Among.{sum_append}
use Rattle.start_rules.specs.declared.Head.{Head}
use Rattle.page_rules.specs.Grammar.{Stripes}
use Rattle.body_rules.specs.Body.{last, next}
use Rattle.write_rules.specs.Layer.{layer_octets}
use Rattle.write_rules.specs.Cut.{stripes_of, together}
use Rattle.write_rules.specs.Modes.{stripe_by}
use Rattle.write_rules.specs.Sentences.{start_size}
use Rattle.write_rules.specs.Form.{bare, Trim}
use Rattle.write_rules.proofs.Passed.{size_in}
use Rattle.write_rules.proofs.Cut.{Lots, ended, another}
use Rattle.write_rules.proofs.Ready.{Sized, Under, Ready}
use Rattle.write_rules.proofs.Modes.{moved_in, stripe_lands, stripe_same, stripe_data, stripe_length, stripe_octets}

-- the records of stripes that are written from a place on
unfoldable pub moved_by : Mode → List ℕ → ℕ → List (List Record) → List Record
moved_by mode d at [] = []
moved_by mode d at (q ∷ qs) = moved_in mode d at q ++ moved_by mode d (at + length (stripe_by mode d q)) qs

-- the records of the page that is written of the records rs
abbrev pub moved_of : Mode → List ℕ → List Record → List Record
moved_of mode d rs = moved_by mode d start_size (stripes_of rs)

pub record Landed (mode : Mode) (d : List ℕ) (hd : Head) (k left at : ℕ) (qs : List (List Record)) : Type 0 where
  pub striped : Stripes hd k left at (joined (stripe_by mode d) qs) (moved_by mode d at qs)
  pub trim : Trim striped

module _ (mode : Mode) (d : List ℕ) (hd : Head) (rs : List Record) (u : Under mode hd rs) where
  pub stripes_land : {k left : ℕ} {qs : List (List Record)} → Lots rs k left qs → (at : ℕ) → Ready d hd rs → Landed mode d hd k left at qs
  unfolding joined moved_by Trim
  stripes_land (ended p) at y = record { striped = last p; trim = tt }
  stripes_land {k} {left} (another {q = q} l more) at y =
      let x = stripe_lands mode d hd rs u y k left at q l in
      let r = stripes_land more (at + length (stripe_by mode d q)) y in
      record { striped = next (heights q) l.few x.stripe r.striped; trim = (x.trim, r.trim) }

  -- ---- the records are those lent, but for the starts of the coded ones

  pub moved_same : {k left : ℕ} {qs : List (List Record)} → Lots rs k left qs → (at : ℕ) → map bare (moved_by mode d at qs) ≡ map bare (together qs)
  unfolding moved_by together
  moved_same (ended p) at = refl
  moved_same {k} {left} (another {q = q} {qs = qs} l more) at =
      map-append bare (moved_in mode d at q) (moved_by mode d (at + length (stripe_by mode d q)) qs)
      ∙ ap₂ (λ (x y : List Record). x ++ y) (stripe_same mode d hd rs u k left at q l) (moved_same more (at + length (stripe_by mode d q)))
      ∙ sym (map-append bare q (together qs))

  module _ (n : (r : Record) → Among r rs → length (layer_octets d r) ≡ r.len) where
    -- ---- and their data is the data of those lent

    pub moved_data : {k left : ℕ} {qs : List (List Record)} → Lots rs k left qs → (s more : List ℕ) (at : ℕ) → drop at s ≡ joined (stripe_by mode d) qs ++ more
        → map (layer_octets s) (moved_by mode d at qs) ≡ map (layer_octets d) (together qs)
    unfolding joined moved_by together
    moved_data (ended p) s more at e = refl
    moved_data {k} {left} (another {q = q} {qs = qs} l rest) s more at e =
        let f : drop at s ≡ stripe_by mode d q ++ (joined (stripe_by mode d) qs ++ more) = e ∙ append_assoc (stripe_by mode d q) (joined (stripe_by mode d) qs) more in
        map-append (layer_octets s) (moved_in mode d at q) (moved_by mode d (at + length (stripe_by mode d q)) qs)
        ∙ ap₂ (λ (x y : List (List ℕ)). x ++ y) (stripe_data mode d hd rs u k left at q l n s (joined (stripe_by mode d) qs ++ more) f)
        (moved_data rest s more (at + length (stripe_by mode d q)) (drop_next s (stripe_by mode d q) (joined (stripe_by mode d) qs ++ more) at f))
        ∙ sym (map-append (layer_octets d) q (together qs))

    -- ---- their octets are as many as were counted

    pub length_stripes : {k left : ℕ} {qs : List (List Record)} → Lots rs k left qs → length (joined (stripe_by mode d) qs) ≡ sum_of (size_in mode) (together qs)
    unfolding joined sum_of together
    length_stripes (ended p) = refl
    length_stripes {k} {left} (another {q = q} {qs = qs} l rest) =
        let a = stripe_length mode d hd rs u k left q l n in
        let b = length_stripes rest in
        let c = length-append (stripe_by mode d q) (joined (stripe_by mode d) qs) in
        let e = sum_append (size_in mode) q (together qs) in
        omega arith

  -- ---- and they are octets

  pub stripes_octets : {k left : ℕ} {qs : List (List Record)} → Lots rs k left qs → left ≤ 65535 → Octets d → ((r : Record) → Among r rs → Sized r) → Octets (joined (stripe_by mode d) qs)
  unfolding joined
  stripes_octets (ended p) low o z = λ k. lit< tt
  stripes_octets {k} {left} (another {q = q} {qs = qs} l rest) low o z =
      octets_append (stripe_by mode d q) (joined (stripe_by mode d) qs) (stripe_octets mode d hd rs u k left q l low o z) (stripes_octets rest (omega arith) o z)
