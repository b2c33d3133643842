-- The entries of a plane list as the octets that C lends for them.
--
--   entry_octets p    an entry's five octets: the layer, and four of start
--   plane_octets ps   those of each entry, in their order
--   Fitting ps       each layer is an octet, and each start fits in four
use Rattle.std.specs.Prelude.{ℕ, ◌<◌, List, [], ◌∷◌}
use Rattle.octets.specs.Octets.{octets32}
use Rattle.octets.specs.Entries.{joined}
use Rattle.pixel_rules.specs.declared.Plane.{Plane}

abbrev pub entry_octets : Plane → List ℕ
entry_octets p = p.layer ∷ octets32 p.start

abbrev pub plane_octets : List Plane → List ℕ
plane_octets ps = joined entry_octets ps

abbrev pub Fitting : List Plane → Type 0
Fitting [] = Unit {0}
Fitting (p ∷ ps) = (p.layer < 256) × ((p.start < 4294967296) × Fitting ps)
