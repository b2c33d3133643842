-- The plane list as structs against the octets that C lends: a line over the one is a line over the other.
-- Assumes nothing.
use Prim.Native.Nat.{ℕ}
use mathlib.Core.Path.{◌≡◌, ap, subst, ◌∙◌}
use mathlib.Core.Bool.{false}
use mathlib.Core.List.{List}
use lib.ListN.{take}
use Rattle.answers.specs.Answers.{Answer}
use Rattle.sheet_rules.specs.declared.Colour.{Colour}
use Rattle.pixel_rules.specs.declared.Plane.{Plane}
use Rattle.pixel_rules.specs.Planes.{PlaneList, list_of, whole_list}
use Rattle.picture_rules.specs.Line.{Lines}
use Rattle.picture_rules.proofs.First.{lines_first}
use Rattle.picture_rules.proofs.Demand3.{lines_once}
use Rattle.line_planes.specs.declared.Listing.{Listing}
use Rattle.line_planes.specs.Listing.{no_planes, gathered, entries_of}
use Rattle.line_planes.proofs.Entries.{gathered_holds}
use Rattle.line_slice.specs.Entries.{plane_octets}
use Rattle.line_slice.proofs.Same.{list_same}
use Rattle.line_verdict.specs.Ruled.{list_from}

-- the first sixteen entries, gathered by value, make the line of all
pub planes_lined : (s : List ℕ) (ps : List Plane) (d : List ℕ) (k y : ℕ) (u : Colour) (t : Listing) (out : List ℕ) (a : Answer) (e : List ℕ) → t ≡ gathered no_planes ps
    → Lines s (list_from t false) d k y u out a e → Lines s (whole_list ps) d k y u out a e
planes_lined s ps d k y u t out a e et h =
    let q : entries_of t ≡ take 16 ps = ap entries_of et ∙ (gathered_holds ps).entries in
    lines_first s d k y ps false u out a e (subst (λ (l : PlaneList). Lines s l d k y u out a e) (λ i. record { entries = q i; part = false }) h)

-- the answer and the buffer of the slice of structs are those of the same entries in octets
pub planes_same : (s : List ℕ) (ps : List Plane) (d : List ℕ) (k y : ℕ) (u : Colour) (out : List ℕ) (a b : Answer) (e f : List ℕ) → Lines s (whole_list ps) d k y u out a e
    → Lines s (list_of (plane_octets ps)) d k y u out b f → (a ≡ b) × (e ≡ f)
planes_same s ps d k y u out a b e f x z = lines_once s (whole_list ps) d k y u out a b e f x (subst (λ (l : PlaneList). Lines s l d k y u out b f) (list_same ps) z)

-- any two results that the promise allows are equal
pub planes_firm : (s : List ℕ) (ps : List Plane) (d : List ℕ) (k y : ℕ) (u : Colour) (out : List ℕ) (a b : Answer) (e f : List ℕ) → Lines s (whole_list ps) d k y u out a e
    → Lines s (whole_list ps) d k y u out b f → (a ≡ b) × (e ≡ f)
planes_firm s ps d k y u out a b e f x z = lines_once s (whole_list ps) d k y u out a b e f x z
