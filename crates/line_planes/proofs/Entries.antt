-- What a list gathered as parallel numbers holds: its first sixteen entries.
-- Assumes nothing.
use Prim.Native.Nat.{ℕ, zero, suc, ◌+◌, ◌-◌, ◌≤◌, ◌<◌, min}
use native.Mathlib.Omega.{arith}
use mathlib.Core.Path.{◌≡◌, refl, sym, ap, ap₂, subst, ◌∙◌}
use mathlib.Core.Logic.{⊎_elim}
use mathlib.Core.List.{List, [], ◌∷◌, ◌++◌, append-nil, append_assoc}
use lib.ListN.{length, set, take, length-set}
use lib.Seq.{get_or-set_same, get_or-set_other}
use Rattle.octets.specs.Entries.{entries_from}
use Rattle.octets.proofs.Entries.{entries_one_more, entries_same}
use Rattle.laws.proofs.Says.{says_lt, says_else}
use Rattle.pixel_rules.specs.declared.Plane.{Plane}
use Rattle.line_planes.specs.declared.Listing.{Listing}
use Rattle.line_planes.specs.Listing.{no_planes, gathered, entry_of, entries_of}
use Rattle.line_planes.proofs.Laws.{plane_kept, gather_full}

-- a list as the struct holds it: at most sixteen entries, in arrays of sixteen
pub record Wide (t : Listing) : Type 0 where
  pub count : t.count ≤ 16
  pub layers : length t.layers ≡ 16
  pub starts : length t.starts ≡ 16

pub wide_none : Wide no_planes
wide_none = record { count = omega arith; layers = refl; starts = refl }

-- ---- one entry more

module _ (t : Listing) (p : Plane) (w : Wide t) (h : t.count < 16) where
  abbrev more : Listing
  more = record { count = t.count + 1; layers = set t.layers t.count p.layer; starts = set t.starts t.count p.start }

  entry_old : (j : ℕ) → j < t.count → entry_of more j ≡ entry_of t j
  entry_old j l =
      let a = get_or-set_other t.layers t.count j p.layer 0 (λ e. omega arith) in
      let b = get_or-set_other t.starts t.count j p.start 0 (λ e. omega arith) in
      λ i. record { layer = a i; start = b i }

  entry_new : entry_of more t.count ≡ p
  entry_new =
      let c = w.layers in
      let d = w.starts in
      let a = get_or-set_same t.layers t.count p.layer 0 (omega arith) in
      let b = get_or-set_same t.starts t.count p.start 0 (omega arith) in
      λ i. record { layer = a i; start = b i }

  more_wide : Wide more
  more_wide =
      record {
        count = omega arith;
        layers = length-set t.layers t.count p.layer ∙ w.layers;
        starts = length-set t.starts t.count p.start ∙ w.starts;
      }

  more_entries : entries_of more ≡ entries_of t ++ (p ∷ [])
  unfolding entries_of
  more_entries =
      let a : min (t.count + 1) 16 ≡ t.count + 1 = omega arith in
      let b : min t.count 16 ≡ t.count = omega arith in
      ap (λ (n : ℕ). entries_from (entry_of more) n 0) a ∙ entries_one_more (entry_of more) t.count
      ∙ ap₂ (λ ps q. ps ++ (q ∷ [])) (entries_same (entry_of more) (entry_of t) t.count 0 0 (λ j l. entry_old (0 + j) (omega arith)) ∙ ap (λ (n : ℕ). entries_from (entry_of t) n 0) (sym b)) entry_new

-- ---- the whole list

pub record Holds (t : Listing) (ps : List Plane) : Type 0 where
  pub wide : Wide t
  pub entries : entries_of t ≡ ps

gather_holds : (t : Listing) (ps : List Plane) → Wide t → Holds (gathered t ps) (entries_of t ++ take (16 - t.count) ps)
unfolding gathered
gather_holds t [] w = record { wide = w; entries = sym (ap (λ ps. entries_of t ++ ps) (take_nil (16 - t.count)) ∙ append-nil (entries_of t)) }
  where
    take_nil : (n : ℕ) → ◌≡◌ {A = List Plane} (take n []) []
    take_nil zero = refl
    take_nil (suc n) = refl
gather_holds t (p ∷ ps) w =
    ⊎_elim
    (λ (h : t.count < 16).
    let g = gather_holds (more t p w h) ps (more_wide t p w h) in
    let z : 16 - t.count ≡ suc (16 - (t.count + 1)) = omega arith in
    let e : entries_of (more t p w h) ++ take (16 - (t.count + 1)) ps ≡ entries_of t ++ take (16 - t.count) (p ∷ ps) =
    ap (λ qs. qs ++ take (16 - (t.count + 1)) ps) (more_entries t p w h)
    ∙ append_assoc (entries_of t) (p ∷ []) (take (16 - (t.count + 1)) ps)
    ∙ ap (λ (n : ℕ). entries_of t ++ take n (p ∷ ps)) (sym z) in
    let k = plane_kept t p h in
    subst (λ u. Holds (gathered u ps) (entries_of t ++ take (16 - t.count) (p ∷ ps))) k (subst (Holds (gathered (more t p w h) ps)) e g))
    (λ (h : t.count < 16 → ⊥).
    let z : 16 - t.count ≡ 0 = omega arith in
    let f = gather_full t (p ∷ ps) (omega arith) in
    subst (λ u. Holds u (entries_of t ++ take (16 - t.count) (p ∷ ps))) (sym f)
    (record { wide = w; entries = sym (ap (λ (n : ℕ). entries_of t ++ take n (p ∷ ps)) z ∙ append-nil (entries_of t)) }))
    (says_else (says_lt t.count 16))

pub gathered_holds : (ps : List Plane) → Holds (gathered no_planes ps) (take 16 ps)
unfolding entries_of entries_from
gathered_holds ps = gather_holds no_planes ps wide_none
