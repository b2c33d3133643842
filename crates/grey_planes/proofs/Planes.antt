-- A grey plane spread out, and a plane list with another start.
-- Assumes nothing.
use Prim.Native.Nat.{ℕ, zero, suc, ◌+◌, ◌*◌, ◌<◌}
use native.Mathlib.Omega.{arith}
use mathlib.Core.Path.{◌≡◌, refl, ap, ◌∙◌}
use mathlib.Core.Logic.{◌≢◌}
use mathlib.Core.Bool.{Bool, cond}
use mathlib.Core.List.{List, [], ◌∷◌}
use lib.ListN.{length, get_or}
use lib.Dec.{eqb}
use borrow.Author.Tests.{eqb-true, ne_eqb}
use Rattle.laws.proofs.Cases.{cond_both, clash}
use Rattle.pixel_rules.specs.declared.Plane.{Plane}
use Rattle.std.specs.Prelude.{Option, Some}
use Rattle.pixel_rules.specs.Planes.{plane_start}
use Rattle.picture_rules.specs.Sentences.{plane, layer_before}
use Rattle.grey_planes.specs.Spread.{spread, starting_at, restarted}

-- ---- each octet as three

pub length_spread : (l : List ℕ) → length (spread l) ≡ length l * 3
unfolding spread
length_spread [] = refl
length_spread (v ∷ l) = let e = length_spread l in omega arith

pub spread_octets : (l : List ℕ) (i : ℕ) → i < length l
    → (get_or (spread l) (i * 3) 0 ≡ get_or l i 0) × (get_or (spread l) (i * 3 + 1) 0 ≡ 128) × (get_or (spread l) (i * 3 + 2) 0 ≡ 96)
unfolding spread
spread_octets [] i h = absurd (omega arith)
spread_octets (v ∷ l) zero h = (refl, refl, refl)
spread_octets (v ∷ l) (suc i) h =
    let e = spread_octets l i (omega arith) in
    let a : suc i * 3 ≡ suc (suc (suc (i * 3))) = omega arith in
    let b : suc i * 3 + 1 ≡ suc (suc (suc (i * 3 + 1))) = omega arith in
    let c : suc i * 3 + 2 ≡ suc (suc (suc (i * 3 + 2))) = omega arith in (
      ap (λ (n : ℕ). get_or (spread (v ∷ l)) n 0) a ∙ e.0,
      ap (λ (n : ℕ). get_or (spread (v ∷ l)) n 0) b ∙ e.1,
      ap (λ (n : ℕ). get_or (spread (v ∷ l)) n 0) c ∙ e.2,
    )

-- ---- the list with another start

module _ (l n : ℕ) where
  pub plane_restarted : (ps : List Plane) (i : ℕ) → i < length ps → plane (restarted l n ps) i ≡ starting_at l n (plane ps i)
  plane_restarted [] i h = absurd (omega arith)
  plane_restarted (p ∷ ps) zero h = refl
  plane_restarted (p ∷ ps) (suc i) h = plane_restarted ps i (omega arith)

  pub before_restarted : (ps : List Plane) (i : ℕ) → i < length ps → layer_before (restarted l n ps) i ≡ layer_before ps i
  before_restarted ps zero h = refl
  before_restarted ps (suc i) h = ap (λ (p : Plane). p.layer) (plane_restarted ps i (omega arith))

  -- a layer that is listed starts there, any other where it did
  pub start_there : (ps : List Plane) (a : ℕ) → plane_start ps l ≡ Some a → plane_start (restarted l n ps) l ≡ Some n
  unfolding plane_start
  start_there [] a = λ e. clash cc
  start_there (p ∷ ps) a =
      cond_both (λ (x y : Option ℕ). x ≡ Some a → y ≡ Some n) (eqb p.layer l) (λ t e. ap (λ (b : Bool). Some (cond b n p.start)) t) (λ t e. start_there ps a e)

  pub start_kept : (ps : List Plane) (j : ℕ) → j ≢ l → plane_start (restarted l n ps) j ≡ plane_start ps j
  unfolding plane_start
  start_kept [] j d = refl
  start_kept (p ∷ ps) j d =
      cond_both (λ (x y : Option ℕ). x ≡ y) (eqb p.layer j)
      (λ t. let e = eqb-true p.layer j t in ap (λ (b : Bool). Some (cond b n p.start)) (ne_eqb p.layer l (λ z. d (omega arith))))
      (λ t. start_kept ps j d)
