-- The verdict on a line, step by step: what each step knows, and how its answer views the ruling.
--
--   bare_scene s extent d    a stripe with no plane list: the judging of an entry does not look at the list
--   list_from list part      the plane list that is held by value
--   line_ruling           the ruling on a line of a stripe that was found
--   ruled_of              a ruling as code has it: the stripe, or the refusal
use Rattle.std.specs.Prelude.{ℕ, Bool, List, [], Some, Result, Ok, Err}
use Rattle.sheet_rules.specs.declared.Extent.{Extent}
use Rattle.answers.specs.declared.Refusal.{Refusal}
use Rattle.pixel_rules.specs.Planes.{PlaneList}
use Rattle.pixel_rules.specs.Samples.{Scene}
use Rattle.picture_rules.specs.Line.{Ruling, shows, refused, stripe_ruling}
use Rattle.line_planes.specs.declared.Listing.{Listing}
use Rattle.line_planes.specs.Listing.{entries_of}

abbrev pub bare_scene : List ℕ → Extent → List ℕ → Scene
bare_scene s extent d = record { sheet = s; extent = extent; planes = []; samples = d }

abbrev pub list_from : Listing → Bool → PlaneList
list_from list part = record { entries = entries_of list; part = part }

abbrev pub line_ruling : List ℕ → PlaneList → List ℕ → ℕ → Extent → Ruling
line_ruling s pl d y extent = stripe_ruling s pl d y (Some extent)

unfoldable pub ruled_of : Ruling → Result Extent Refusal
ruled_of (shows v) = Ok v.extent
ruled_of (refused a) = Err a
