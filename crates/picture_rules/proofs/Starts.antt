-- A list without fault lists a layer once, and the layer starts where its entry says.
-- Assumes nothing.
use Prim.Native.Nat.{ℕ, zero, suc, ◌<◌}
use native.Mathlib.Omega.{arith}
use mathlib.Core.Path.{◌≡◌}
use mathlib.Core.List.{List, [], ◌∷◌, Memᴰ}
use lib.ListN.{length}
use Rattle.pixel_rules.specs.declared.Plane.{Plane}
use Rattle.std.specs.Prelude.{Some}
use Rattle.pixel_rules.specs.Planes.{PlaneList, plane_start}
use Rattle.pixel_rules.specs.Samples.{Scene}
use Rattle.pixel_rules.proofs.Starts.{Rises, rises_start}
use Rattle.picture_rules.specs.Sentences.{plane, FineEntry, AllFine}

-- each entry is above the one before it
abbrev last_of : ℕ → List Plane → ℕ → ℕ
last_of last ps zero = last
last_of last ps (suc i) = (plane ps i).layer

rises_from : (ps : List Plane) (last : ℕ) → ((i : ℕ) → i < length ps → last_of last ps i < (plane ps i).layer) → Rises last ps
rises_from [] last f = tt
rises_from (p ∷ ps) last f = (f 0 (omega arith), rises_from ps p.layer (λ i h. next i h))
  where
    next : (i : ℕ) → i < length ps → last_of p.layer ps i < (plane ps i).layer
    next zero h = f 1 (omega arith)
    next (suc i) h = f (suc (suc i)) (omega arith)

fine_last : (v : Scene) (ps : List Plane) (i : ℕ) → FineEntry v ps i → last_of 0 ps i < (plane ps i).layer
fine_last v ps zero k = k.rises
fine_last v ps (suc i) k = k.rises

pub start_entry : (v : Scene) (pl : PlaneList) → AllFine v pl → (p : Plane) → Memᴰ p pl.entries → plane_start pl.entries p.layer ≡ Some p.start
start_entry v pl f p m = rises_start pl.entries 0 p (rises_from pl.entries 0 (λ i h. fine_last v pl.entries i (f.entries i h))) m
