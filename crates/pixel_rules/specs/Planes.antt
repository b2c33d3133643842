-- The plane list: one entry for each layer that was read (01, "Colour of a pixel").
--
--   plane_size          the octets of an entry in the form from C
--   plane_at s i        entry i of a list in that form: the layer, and four octets of start
--   PlaneList          the entries, and whether a part entry stands after them
--   list_of s           the list of these octets; whole_list ps: the list of these entries, which has no part
--   plane_start            where a layer's samples start, or that it is unread
use Rattle.std.specs.Prelude.{ℕ, ◌+◌, ◌*◌, ◌%◌, Bool, false, not, cond, List, [], ◌∷◌, length, get_or, eqb, Option, Some, None}
use Rattle.octets.specs.Octets.{be32_at}
use Rattle.octets.specs.Entries.{whole_entries}
use Rattle.pixel_rules.specs.declared.Plane.{Plane}

abbrev pub plane_size : ℕ
plane_size = 5

unfoldable pub plane_at : List ℕ → ℕ → Plane
plane_at s i = record { layer = get_or s (i * plane_size) 0; start = be32_at s (i * plane_size + 1) }

pub record PlaneList : Type 0 where
  pub entries : List Plane
  pub part : Bool

abbrev pub list_of : List ℕ → PlaneList
list_of s = record { entries = whole_entries plane_size plane_at s; part = not (eqb (length s % plane_size) 0) }

abbrev pub whole_list : List Plane → PlaneList
whole_list ps = record { entries = ps; part = false }

unfoldable pub plane_start : List Plane → ℕ → Option ℕ
plane_start [] l = None
plane_start (p ∷ ps) l = cond (eqb p.layer l) (Some p.start) (plane_start ps l)
