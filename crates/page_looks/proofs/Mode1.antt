-- Reading a Mode 1 stripe from its body on depends on the octets up to where it looked: to the end of the field at fault, and of the JPEG body at fault.
--
--   layer_look    an image layer where the type names one
--   layers_look   the coded layers of a stripe
--   stripe_look   the stripe from the first octet of its body on
--
-- Assumes nothing.
use Prim.Native.Nat.{ℕ, ◌+◌, ◌-◌, ◌≤◌, ◌<◌}
use native.Mathlib.Omega.{arith}
use mathlib.Core.Path.{◌≡◌, refl, sym, ap, subst, ◌∙◌}
use mathlib.Core.Bool.{Bool, true, false, cond}
use mathlib.Core.List.{List, []}
use lib.ListN.{length}
use lib.Dec.{lit≤}
use Rattle.octets.specs.Octets.{Octets}
use Rattle.laws.proofs.Cases.{clash}
use Rattle.answers.specs.declared.Refusal.TheVariants.{BadType, BadStripe}
use Rattle.answers.specs.Answers.{refusal_place}
use Rattle.field_rules.specs.Field.{widths, fields}
use Rattle.field_rules.specs.Part.{span_of}
use Rattle.page_looks.proofs.Hangs.{reach, Whole}
use Rattle.page_looks.proofs.Fields.{Looks}
use Rattle.page_looks.proofs.Looked.{onward, beyond, Near, near, fill_by, Nearby, ◌&◌, Looked, looked_ok, looked_no, looked_then}
use Rattle.jpeg_rules.specs.declared.Fault.{Fault}
use Rattle.jpeg_rules.specs.declared.Fault.TheVariants as F
use Rattle.std.specs.Prelude.{Option, Some, None, Result, Ok, Err}
use Rattle.jpeg_rules.specs.declared.Said.{Said}
use Rattle.mode1_rules.specs.declared.LayerData.{LayerData}
use Rattle.jpeg_rules.specs.Walk.{walk_of}
use Rattle.jpeg_looks.proofs.Look.{walk_look, walk_beyond}
use Rattle.jpeg_rules.proofs.Within.{place_of as place_of_fault}
use Rattle.jpeg_looks.proofs.Hangs as J
use Rattle.start_rules.specs.declared.Head.{Head}
use Rattle.mode1_rules.specs.declared.Fields.{Fields}
use Rattle.mode1_rules.specs.Kinds.{has_back, has_fore}
use Rattle.mode1_rules.specs.Reading.{stripe_table, fields_from, fault_of, on_walk, walked}

unfoldable pub layer_look : List ℕ → ℕ → Bool → ℕ → ℕ
layer_look s main present at = cond present (walk_look s at main) at

unfoldable pub layers_look : Head → Fields → List ℕ → ℕ → ℕ
unfolding layer_look
layers_look hd f s at =
    onward (span_of s at f.mask_length) (at + f.mask_length) (λ (n p : ℕ).
    onward (walked s hd.main (has_back f.kind) p) (layer_look s hd.main (has_back f.kind) p) (λ (back : Option LayerData) (q : ℕ).
    layer_look s hd.main (has_fore f.kind) q))

unfoldable pub stripe_look : Head → ℕ → List ℕ → ℕ → ℕ
unfolding layers_look
stripe_look hd left s at =
    onward (fields (stripe_table hd left) [] s at) (reach (stripe_table hd left) [] s at) (λ (vs : List ℕ) (n : ℕ). layers_look hd (fields_from vs) s n)

-- ---- the fields: each is at most as wide as `beyond` says

pub stripe_near : (at : ℕ) (hd : Head) (left : ℕ) → Looks Near at (stripe_table hd left)
unfolding Looks stripe_table widths refusal_place beyond
stripe_near at hd left =
    near at 1 (BadType at) refl (lit≤ tt) (lit≤ tt)
    & near (at + 1) 3 (BadStripe (at + 1)) refl (lit≤ tt) (lit≤ tt)
    & near (at + 1 + 3) 3 (BadStripe (at + 1 + 3)) refl (lit≤ tt) (lit≤ tt)
    & near (at + 1 + 3 + 3) 8 (BadStripe (at + 1 + 3 + 3)) refl (lit≤ tt) (lit≤ tt)
    & near (at + 1 + 3 + 3 + 8) 8 (BadStripe (at + 1 + 3 + 3 + 8)) refl (lit≤ tt) (lit≤ tt)
    & near (at + 1 + 3 + 3 + 8 + 8) 4 (BadStripe (at + 1 + 3 + 3 + 8 + 8)) refl (lit≤ tt) (lit≤ tt)
    & near (at + 1 + 3 + 3 + 8 + 8 + 4) 4 (BadStripe (at + 1 + 3 + 3 + 8 + 8 + 4)) refl (lit≤ tt) (lit≤ tt)
    & tt

-- ---- the layers

near_fault : (s : List ℕ) (f : Fault) (look : ℕ) → (place_of_fault f < look) × (look ≤ place_of_fault f + walk_beyond s f) → Nearby s (fault_of f) look
unfolding place_of_fault walk_beyond fault_of refusal_place beyond fill_by
near_fault s (F.Short p) look k = let a = k.0 in let b = k.1 in record { past = a; most = b }
near_fault s (F.BadLength p) look k = let a = k.0 in let b = k.1 in record { past = a; most = let z : look ≤ p + (0 + 6) = omega arith in z }
near_fault s (F.BadRes p) look k = let a = k.0 in let b = k.1 in record { past = a; most = let z : look ≤ p + (0 + 65525) = omega arith in z }
near_fault s (F.BadLayer p) look k = let a = k.0 in let b = k.1 in record { past = a; most = b }

module _ (s : List ℕ) (o : Octets s) (main : ℕ) where
  walk_looked : (at : ℕ) (x : Result (ℕ × Said) Fault) → walk_of s at main ≡ x → Whole (on_walk x at) → Looked (walk_look s at main) (λ (t : List ℕ). on_walk (walk_of t at main) at) s at
  unfolding on_walk fault_of J.NearWalk
  walk_looked at (Ok (e, said)) q u =
      let y = J.walk_hangs s o at main (λ p z. clash cc) in
      let z : walk_look s at main ≡ e = subst (J.NearWalk s (walk_look s at main)) q y.near in
      looked_then s (λ (t : List ℕ). walk_of t at main) (λ (x : Result (ℕ × Said) Fault) (t : List ℕ). on_walk x at) (Ok (e, said)) (walk_look s at main) (walk_look s at main) at q y.hangs
      (subst (λ (l : ℕ). Looked l (λ (t : List ℕ). on_walk (Ok (e, said)) at) s l) (sym z) (looked_ok s (Some (record { start = at; size = e - at; said = said })) e (let i = y.hangs.inside in omega arith)))
  walk_looked at (Err f) q u =
      let y = J.walk_hangs s o at main (λ p z. u p (ap (λ (x : Result (ℕ × Said) Fault). on_walk x at) (sym q ∙ z))) in
      looked_then s (λ (t : List ℕ). walk_of t at main) (λ (x : Result (ℕ × Said) Fault) (t : List ℕ). on_walk x at) (Err f) (walk_look s at main) (walk_look s at main) at q y.hangs
      (looked_no s (fault_of f) (walk_look s at main) (walk_look s at main) (omega arith) y.hangs.inside (near_fault s f (walk_look s at main) (subst (J.NearWalk s (walk_look s at main)) q y.near)))

  pub looked_walked : (present : Bool) (at : ℕ) → at ≤ length s → Whole (walked s main present at)
      → Looked (layer_look s main present at) (λ (t : List ℕ). walked t main present at) s at
  unfolding walked layer_look
  looked_walked true at h w = walk_looked at (walk_of s at main) refl w
  looked_walked false at h w = looked_ok s None at h
