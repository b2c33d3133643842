-- The walk over a layer with octets FF put in before one of its markers.
-- Assumes nothing.
use Prim.Native.Nat.{ℕ, ◌+◌, ◌-◌, ◌≤◌}
use native.Mathlib.Omega.{arith}
use mathlib.Core.Path.{◌≡◌, refl, sym, ap, ap₂, ◌∙◌}
use mathlib.Core.List.{List, ◌++◌, append_assoc}
use lib.ListN.{length, take, drop, replicate, length-append, length-drop, length-replicate}
use lib.Seq.{length-take-le, take_at, drop_at, take-add}
use Rattle.octets.proofs.Laws.{drop_next}
use Rattle.jpeg_rules.specs.declared.Said.{Said}
use Rattle.jpeg_rules.specs.declared.Reach.{Reach}
use Rattle.std.specs.Prelude.{Ok}
use Rattle.jpeg_rules.specs.Walk.{begun, walk_of}
use Rattle.jpeg_rules.proofs.Scans.{scan_split}
use Rattle.jpeg_rules.proofs.There.{layer_walk}
use Rattle.jpeg_rules.proofs.Theorems.{LayerAt}
use Rattle.jpeg_padding.specs.Places.{BeginsAt, padded, padded_at, Comes}
use Rattle.jpeg_padding.proofs.Pads.{layer_more, layer_parts}
use Rattle.jpeg_padding.proofs.Reached.{layer_met}

-- ---- the list in its parts: up to the layer, the layer's two, and what stands after it

module _ (s : List ℕ) (start e : ℕ) (after : start ≤ e) (inside : e ≤ length s) (a b : List ℕ) (parts : take (e - start) (drop start s) ≡ a ++ b) where
  parts_length : length a + length b ≡ e - start
  parts_length = sym (length-append a b) ∙ sym (ap length parts) ∙ length-take-le (e - start) (drop start s) (let l = length-drop start s in omega arith)

  parts_there : drop start s ≡ a ++ (b ++ drop e s)
  parts_there = scan_split s start e after ∙ ap (λ (x : List ℕ). x ++ drop e s) parts ∙ append_assoc a b (drop e s)

  front_taken : take (start + length a) s ≡ take start s ++ a
  front_taken =
      take-add start (length a) s
      ∙ ap (λ (x : List ℕ). take start s ++ x) (ap (take (length a)) parts_there ∙ take_at a (b ++ drop e s) (length a) refl)

  padded_there : (k : ℕ) → drop start (padded_at s (start + length a) k) ≡ padded k a b ++ drop e s
  padded_there k =
      ap (drop start)
      (ap₂ (λ (x y : List ℕ). x ++ (replicate k 0xFF ++ y)) front_taken (drop_next s a (b ++ drop e s) start parts_there) ∙ simp append_assoc)
      ∙ drop_at (take start s) (padded k a b ++ drop e s) start (length-take-le start s (omega arith))

  padded_length : (k : ℕ) → start + length (padded k a b) ≡ e + k
  padded_length k =
      let x = length-append a (replicate k 0xFF ++ b) in
      let y = length-append (replicate k 0xFF) b in
      let z = length-replicate {A = ℕ} k 0xFF in
      let n = parts_length in
      omega arith

pub walk_more : (s : List ℕ) (start main e : ℕ) (said : Said) (y : LayerAt s start main e said) (p : ℕ) → BeginsAt y.layer start p → (k : ℕ)
    → walk_of (padded_at s p k) start main ≡ Ok (e + k, said)
walk_more s start main e said y p m k =
    let a : List ℕ = m.front in
    let b : List ℕ = m.back in
    let q = layer_parts y.layer m.begins in
    ap (λ (n : ℕ). walk_of (padded_at s n k) start main) m.place
    ∙ layer_walk (padded_at s (start + length a) k) start main (padded k a b) (drop e s) said (layer_more y.layer k m.begins)
    (padded_there s start e y.after y.inside a b q k)
    ∙ ap (λ (n : ℕ). Ok (n, said)) (padded_length s start e y.after y.inside a b q k)

-- ---- the places that the walk comes to

pub walk_reaches : (s : List ℕ) (start main e : ℕ) (said : Said) (y : LayerAt s start main e said) (t : Reach) → Comes s main (begun (start + 2)) t
    → BeginsAt y.layer start t.at
walk_reaches s start main e said y = layer_met s start main (drop e s) y.layer (scan_split s start e y.after)
