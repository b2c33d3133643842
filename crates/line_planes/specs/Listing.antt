-- The plane list as parallel numbers: its first sixteen entries, layers and starts apart.
--
--   no_planes         no entry
--   with_plane list p    one entry more; a seventeenth and those after it are passed over
--   gathered list ps    the entries ps, in their order, after those of list
--   listing_of s      the whole entries of a list from C
--   entry_of list i      entry i of it
--   entries_of        all entries that it has, at most sixteen
use Rattle.std.specs.Prelude.{ℕ, ◌+◌, min, cond, List, [], ◌∷◌, get_or, set, replicate, ltb}
use Rattle.octets.specs.Entries.{entries_from}
use Rattle.pixel_rules.specs.declared.Plane.{Plane}
use Rattle.pixel_rules.specs.Planes.{list_of}
use Rattle.line_planes.specs.declared.Listing.{Listing}

abbrev pub no_planes : Listing
no_planes = record { count = 0; layers = replicate 16 0; starts = replicate 16 0 }

unfoldable pub with_plane : Listing → Plane → Listing
with_plane list p =
    cond (ltb list.count 16)
    (record { count = list.count + 1; layers = set list.layers list.count p.layer; starts = set list.starts list.count p.start })
    list

unfoldable pub gathered : Listing → List Plane → Listing
unfolding with_plane
gathered list [] = list
gathered list (p ∷ ps) = gathered (with_plane list p) ps

unfoldable pub listing_of : List ℕ → Listing
unfolding gathered entries_from
listing_of s = gathered no_planes (list_of s).entries

abbrev pub entry_of : Listing → ℕ → Plane
entry_of list i = record { layer = get_or list.layers i 0; start = get_or list.starts i 0 }

unfoldable pub entries_of : Listing → List Plane
unfolding entries_from
entries_of list = entries_from (entry_of list) (min list.count 16) 0
