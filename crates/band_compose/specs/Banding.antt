-- A stripe that is to be shown: what becomes of it.
--
--   Banded     the answer and the buffer after the ruling that shows the scene, u being the unseen colour
use Rattle.std.specs.Prelude.{ℕ, ◌≡◌, List, length}
use Rattle.answers.specs.Answers.{Answer}
use Rattle.sheet_rules.specs.declared.Colour.{Colour}
use Rattle.pixel_rules.specs.Samples.{Scene}
use Rattle.picture_rules.specs.Line.{shows}
use Rattle.band_rules.specs.Band.{band_answer, band_holds}

pub record Banded (v : Scene) (u : Colour) (out : List ℕ) (a : Answer) (e : List ℕ) : Type 0 where
  pub answers : a ≡ band_answer (length out) (shows v)
  pub holds : e ≡ band_holds u out (shows v)
