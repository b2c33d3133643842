-- Where a layer's samples start: an entry's octets, found in the plane list exactly if the layer is listed, and where layers rise, at its one entry.
-- Assumes nothing.
use Prim.Native.Nat.{ℕ, ◌+◌, ◌*◌, ◌<◌}
use native.Mathlib.Nat.{add-zero, add_assoc}
use native.Mathlib.Omega.{arith}
use mathlib.Core.Path.{◌≡◌, refl, sym, ap, ◌∙◌}
use mathlib.Core.Logic.{⊎_elim}
use mathlib.Core.Bool.{Bool, cond}
use mathlib.Core.List.Memᴰ
use mathlib.Core.List.{List, [], ◌∷◌, Memᴰ}
use lib.ListN.{drop}
use lib.Seq.{get_or-drop}
use lib.Dec.{eqb}
use borrow.Author.Tests.{eqb-true, eq-eqb, ne_eqb}
use Rattle.laws.proofs.Cases.{cond_with, clash}
use Rattle.octets.specs.Octets.{be16_at, be32_at}
use Rattle.pixel_rules.specs.declared.Plane.{Plane}
use Rattle.std.specs.Prelude.{Option, Some}
use Rattle.pixel_rules.specs.Planes.{plane_at, plane_start}

-- ---- an entry's octets

-- the layer, and then its start, most significant octet first
pub plane_octets_lem : (l a b c d : ℕ) (more : List ℕ)
    → plane_at (l ∷ a ∷ b ∷ c ∷ d ∷ more) 0 ≡ record { layer = l; start = ((a * 256 + b) * 256 + c) * 256 + d }
unfolding plane_at be32_at be16_at
plane_octets_lem l a b c d more =
    let e : (a * 256 + b) * 65536 + (c * 256 + d) ≡ ((a * 256 + b) * 256 + c) * 256 + d = omega arith in
    λ i. record { layer = l; start = e i }

-- five octets an entry, one after the other
pub plane_place : (s : List ℕ) (i : ℕ) → plane_at s i ≡ plane_at (drop (i * 5) s) 0
unfolding plane_at be32_at be16_at
plane_place s i = simp (get_or-drop, add-zero, add_assoc) refl

-- ---- an entry of the layer

pub record Entry (ps : List Plane) (l a : ℕ) : Type 0 where
  pub p : Plane
  pub among : Memᴰ p ps
  pub layer : p.layer ≡ l
  pub start : p.start ≡ a

entry_more : (q : Plane) (ps : List Plane) (l a : ℕ) → Entry ps l a → Entry (q ∷ ps) l a
entry_more q ps l a e = record { p = e.p; among = Memᴰ.tail e.among; layer = e.layer; start = e.start }

-- a start that is found is that of an entry of the layer
pub start_among : (ps : List Plane) (l a : ℕ) → plane_start ps l ≡ Some a → Entry ps l a
unfolding plane_start
start_among [] l a = λ e. clash cc
start_among (q ∷ ps) l a =
    cond_with (λ (x : Option ℕ). x ≡ Some a → Entry (q ∷ ps) l a) (eqb q.layer l)
    (λ t e. let z : q.start ≡ a = cc in record { p = q; among = Memᴰ.head refl; layer = eqb-true q.layer l t; start = z })
    (λ t e. entry_more q ps l a (start_among ps l a e))

-- a layer that is listed has a start
pub start_some : (ps : List Plane) (p : Plane) → Memᴰ p ps → (a : ℕ) × (plane_start ps p.layer ≡ Some a)
unfolding plane_start
start_some [] p m = absurd (Memᴰ.not-nil m)
start_some (q ∷ ps) p m =
    cond_with (λ (x : Option ℕ). (a : ℕ) × (x ≡ Some a)) (eqb q.layer p.layer)
    (λ t. (q.start, refl))
    (λ t.
    ⊎_elim (λ (e : p ≡ q). let z = eq-eqb q.layer p.layer (ap (λ (r : Plane). r.layer) (sym e)) in clash cc) (λ (k : Memᴰ p ps). start_some ps p k)
    (Memᴰ.cases_cons m))

-- ---- layers that rise

abbrev pub Rises : ℕ → List Plane → Type 0
Rises last [] = Unit
Rises last (p ∷ ps) = (last < p.layer) × Rises p.layer ps

rises_above : (ps : List Plane) (last : ℕ) (p : Plane) → Rises last ps → Memᴰ p ps → last < p.layer
rises_above [] last p r m = absurd (Memᴰ.not-nil m)
rises_above (q ∷ ps) last p r m =
    let a = r.0 in
    ⊎_elim (λ (e : p ≡ q). let z = ap (λ (x : Plane). x.layer) e in omega arith) (λ (k : Memᴰ p ps). let b = rises_above ps q.layer p r.1 k in omega arith)
    (Memᴰ.cases_cons m)

-- each layer once: an entry's layer starts where the entry says
pub rises_start : (ps : List Plane) (last : ℕ) (p : Plane) → Rises last ps → Memᴰ p ps → plane_start ps p.layer ≡ Some p.start
unfolding plane_start
rises_start [] last p r m = absurd (Memᴰ.not-nil m)
rises_start (q ∷ ps) last p r m =
    ⊎_elim
    (λ (e : p ≡ q).
    let z = eq-eqb q.layer p.layer (ap (λ (x : Plane). x.layer) (sym e)) in
    ap (λ (b : Bool). cond b (Some q.start) (plane_start ps p.layer)) z ∙ ap (λ (x : Plane). Some x.start) (sym e))
    (λ (k : Memᴰ p ps).
    let h = rises_above ps q.layer p r.1 k in
    ap (λ (b : Bool). cond b (Some q.start) (plane_start ps p.layer)) (ne_eqb q.layer p.layer (λ z. omega arith)) ∙ rises_start ps q.layer p r.1 k)
    (Memᴰ.cases_cons m)
