-- A line that is to be shown: what is known of it, and what becomes of it.
--
--   scene_from    the scene of a stripe, a plane list by value, and the samples
--   Showable v y    the ruling on some stripe's line y shows the scene
--   Composed     the answer and the buffer after that ruling, u being the unseen colour
use Rattle.std.specs.Prelude.{ℕ, ◌≡◌, Bool, List, length}
use Rattle.answers.specs.Answers.{Answer}
use Rattle.sheet_rules.specs.declared.Colour.{Colour}
use Rattle.sheet_rules.specs.declared.Extent.{Extent}
use Rattle.pixel_rules.specs.Samples.{Scene}
use Rattle.picture_rules.specs.Line.{shows, ruling_of, line_answer, line_holds}
use Rattle.line_planes.specs.declared.Listing.{Listing}
use Rattle.line_planes.specs.Listing.{entries_of}

abbrev pub scene_from : List ℕ → Extent → Listing → List ℕ → Scene
scene_from s extent list d = record { sheet = s; extent = extent; planes = entries_of list; samples = d }

pub record Showable (v : Scene) (y : ℕ) : Type 0 where
  pub stripe : ℕ
  pub part : Bool
  pub ruling : ruling_of v.sheet (record { entries = v.planes; part = part }) v.samples stripe y ≡ shows v

pub record Composed (v : Scene) (y : ℕ) (u : Colour) (out : List ℕ) (a : Answer) (e : List ℕ) : Type 0 where
  pub answers : a ≡ line_answer (length out) (shows v)
  pub holds : e ≡ line_holds u out y (shows v)
