-- What a turn of each loop does, and its end. Assumes nothing.
use Rattle.std.proofs.Common.{◌≡◌, ◌≢◌, ℕ, ◌+◌, ◌<◌, ◌≤◌, List, ◌∷◌, length, get_or, drop, sym, ap, subst, ◌∙◌, add-one, drop-cons}
use lib.ListN.{drop_of_length-le}
use borrow.Author.Tests.{eq-eqb, ne_eqb}
use mathlib.Core.Bool.{Bool, cond}
use Rattle.pixel_rules.specs.declared.Plane.{Plane}
use Rattle.std.specs.Prelude.{Some, None}
use Rattle.pixel_rules.specs.Planes.{plane_start}
use Rattle.line_planes.specs.declared.Listing.{Listing}
use Rattle.line_planes.specs.Listing.{no_planes, with_plane, gathered}

module _ (ps : List Plane) (i : ℕ) where
  opens : (d : Plane) → i < length ps → drop i ps ≡ get_or ps i d ∷ drop (i + 1) ps
  opens d h = rw (add-one, drop-cons ps i d)

  -- the entries of the list
  pub gather_next : (d : Plane) (t x : Listing) → i < length ps → gathered no_planes ps ≡ gathered t (drop i ps) → x ≡ with_plane t (get_or ps i d)
      → gathered no_planes ps ≡ gathered x (drop (i + 1) ps)
  unfolding gathered
  gather_next d t x h e w = e ∙ ap (λ (l : List Plane). gathered t l) (opens d h) ∙ ap (λ (y : Listing). gathered y (drop (i + 1) ps)) (sym w)

  pub gather_end : (t : Listing) → length ps ≤ i → gathered no_planes ps ≡ gathered t (drop i ps) → t ≡ gathered no_planes ps
  unfolding gathered
  gather_end t h e = sym (e ∙ ap (λ (l : List Plane). gathered t l) (drop_of_length-le ps h))

  -- the start of a layer
  module _ (l : ℕ) (e : plane_start ps l ≡ plane_start (drop i ps) l) where
    here : (d : Plane) → i < length ps → (get_or ps i d).layer ≡ l → Some (get_or ps i d).start ≡ plane_start ps l
    unfolding plane_start
    here d h q =
        sym
        (e
        ∙ ap (λ (y : List Plane). plane_start y l) (opens d h)
        ∙ ap (λ (b : Bool). cond b (Some (get_or ps i d).start) (plane_start (drop (i + 1) ps) l)) (eq-eqb (get_or ps i d).layer l q))

    next : (d : Plane) → i < length ps → (get_or ps i d).layer ≢ l → plane_start ps l ≡ plane_start (drop (i + 1) ps) l
    unfolding plane_start
    next d h q =
        e
        ∙ ap (λ (y : List Plane). plane_start y l) (opens d h)
        ∙ ap (λ (b : Bool). cond b (Some (get_or ps i d).start) (plane_start (drop (i + 1) ps) l)) (ne_eqb (get_or ps i d).layer l q)

    -- the entry that is looked at, at j, is the next one
    module _ (d : Plane) (j : ℕ) (h : i < length ps) where
      pub start_here : (get_or ps j d).layer ≡ l → j ≡ i → Some (get_or ps j d).start ≡ plane_start ps l
      start_here q z = subst (λ (m : ℕ). (get_or ps m d).layer ≡ l → Some (get_or ps m d).start ≡ plane_start ps l) (sym z) (here d h) q

      pub start_next : (get_or ps j d).layer ≢ l → j ≡ i → plane_start ps l ≡ plane_start (drop (i + 1) ps) l
      start_next q z = next d h (subst (λ (m : ℕ). (get_or ps m d).layer ≢ l) z q)

    pub start_none : length ps ≤ i → None ≡ plane_start ps l
    unfolding plane_start
    start_none h = sym (e ∙ ap (λ (y : List Plane). plane_start y l) (drop_of_length-le ps h))
