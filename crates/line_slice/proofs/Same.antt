-- A list of plane structs and its octets from C are the same plane list: the octets are read as the entries, and what `gather_planes` answers of the
-- structs is what `line_planes::listing_of` answers of the octets. Of two answers that a promise allows, both are the same.
-- Assumes nothing.
use mathlib.Core.Path.{◌≡◌, refl, sym, ap, ◌∙◌}
use Prim.Native.Nat.{ℕ, zero, suc, ◌+◌, ◌*◌, ◌<◌}
use native.Mathlib.Nat.{add-zero, add_assoc}
use native.Mathlib.Omega.{arith}
use mathlib.Core.List.{List, [], ◌∷◌, ◌++◌}
use lib.ListN.{get_or}
use lib.Dec.{lit<}
use Rattle.octets.specs.Octets.{be32_at, Octets}
use Rattle.octets.proofs.Laws.{length_octets32, be32_there, octets_append, octets_32, be32_same}
use Rattle.octets.specs.Entries.{joined, Entry}
use Rattle.octets.proofs.Entries.{joined_whole, joined_rest}
use Rattle.pixel_rules.specs.declared.Plane.{Plane}
use Rattle.pixel_rules.specs.Planes.{plane_at, PlaneList, list_of, whole_list, plane_start, plane_size}
use Rattle.line_planes.specs.declared.Listing.{Listing}
use Rattle.line_planes.specs.Listing.{no_planes, gathered, listing_of}
use Rattle.std.specs.Prelude.{Option}
use Rattle.line_slice.specs.Entries.{entry_octets, plane_octets, Fitting}

-- ---- the octets of the entries, read back

plane_own : (s t : List ℕ) (i j : ℕ) → ((m : ℕ) → m < plane_size → get_or s (i * plane_size + m) 0 ≡ get_or t (j * plane_size + m) 0) → plane_at s i ≡ plane_at t j
unfolding plane_at
plane_own s t i j e =
    let a : get_or s (i * plane_size) 0 ≡ get_or t (j * plane_size) 0 = simp add-zero at (e 0 (lit< tt)) in
    let b : be32_at s (i * plane_size + 1) ≡ be32_at t (j * plane_size + 1) = be32_same s t (i * plane_size + 1) (j * plane_size + 1) (λ k h. simp add_assoc (e (1 + k) (omega arith))) in
    cc

plane_first : (p : Plane) (s : List ℕ) → plane_at (entry_octets p ++ s) 0 ≡ p
unfolding plane_at
plane_first p s =
    let e : be32_at (entry_octets p ++ s) 1 ≡ p.start = be32_there (entry_octets p ++ s) s 1 p.start refl in
    rw e refl

-- the laws of entries hold of planes
plane_entry : Entry plane_size plane_at entry_octets
plane_entry = record { some = lit< tt; own = plane_own; long = λ p. ap suc (length_octets32 _); back = plane_first }

-- the octets of the entries are a list of those entries, with no part
pub list_same : (ps : List Plane) → list_of (plane_octets ps) ≡ whole_list ps
list_same ps = rw (joined_rest plane_entry ps, joined_whole plane_entry ps) refl

-- entries that fit their types are octets that C can lend
entry_lent : (p : Plane) → p.layer < 256 → p.start < 4294967296 → Octets (entry_octets p)
entry_lent p l s zero = l
entry_lent p l s (suc k) = octets_32 p.start s k

pub planes_lent : (ps : List Plane) → Fitting ps → Octets (plane_octets ps)
unfolding joined
planes_lent [] h = λ k. omega arith
planes_lent (p ∷ ps) h = octets_append (entry_octets p) (plane_octets ps) (entry_lent p h.0 h.1.0) (planes_lent ps h.1.1)

-- ---- what the functions answer

-- the listing of the structs is the listing of their octets
pub gathered_same : (ps : List Plane) → gathered no_planes ps ≡ listing_of (plane_octets ps)
unfolding listing_of
gathered_same ps = ap (λ (t : PlaneList). gathered no_planes t.entries) (sym (list_same ps))

-- so `gather_planes` on the structs and `line_planes::listing_of` on their octets answer the same
pub answers_same : (ps : List Plane) (a b : Listing) → a ≡ gathered no_planes ps → b ≡ listing_of (plane_octets ps) → a ≡ b
answers_same ps a b e f = e ∙ gathered_same ps ∙ sym f

-- and the lookup finds what stands in the octets
pub start_same : (ps : List Plane) (l : ℕ) → plane_start ps l ≡ plane_start (list_of (plane_octets ps)).entries l
start_same ps l = ap (λ (t : PlaneList). plane_start t.entries l) (sym (list_same ps))

-- ---- firmness: a promise allows one answer

pub gather_firm : (ps : List Plane) (a b : Listing) → a ≡ gathered no_planes ps → b ≡ gathered no_planes ps → a ≡ b
gather_firm ps a b e f = e ∙ sym f

pub start_firm : (ps : List Plane) (l : ℕ) (a b : Option ℕ) → a ≡ plane_start ps l → b ≡ plane_start ps l → a ≡ b
start_firm ps l a b e f = e ∙ sym f
