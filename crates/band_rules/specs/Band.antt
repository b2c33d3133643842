-- The steps of a band call (02, 2026-12): all lines of a stripe, one behind the other. Read Sentences.antt first, which says when each answer is given
-- and which octets a band has: `band_exactly` (proofs/Exactly.antt) and `bands_lines` (proofs/Bands.antt) tie these steps to it.
--
--   band_lines u v n    the octets of lines 0 to n - 1 of a scene
--   band_size v         the octets of a band: four a pixel, width by height of the stripe
--   band_of             what the call answers, where the buffer holds so many octets
--   band_into           what the buffer holds afterwards
--   Bands              the call's promise: it answers a, and the buffer is then e
use Rattle.std.specs.Prelude.{ℕ, zero, suc, ◌*◌, ◌≡◌, cond, List, [], ◌++◌, length, ltb, Ok, Err}
use Rattle.octets.specs.Octets.{put_at}
use Rattle.answers.specs.Answers.{Answer}
use Rattle.answers.specs.declared.Refusal.TheVariants.{NoRoom}
use Rattle.sheet_rules.specs.declared.Colour.{Colour}
use Rattle.pixel_rules.specs.Planes.{PlaneList}
use Rattle.pixel_rules.specs.Samples.{Scene, width_of}
use Rattle.picture_rules.specs.Line.{line_pixels, Ruling, shows, refused, ruling_of}

-- from the top down
unfoldable pub band_lines : Colour → Scene → ℕ → List ℕ
unfolding line_pixels
band_lines u v zero = []
band_lines u v (suc n) = band_lines u v n ++ line_pixels u v n

unfoldable pub band_size : Scene → ℕ
band_size v = width_of v * v.extent.height * 4

unfoldable pub band_answer : ℕ → Ruling → Answer
unfolding band_size
band_answer room (shows v) = cond (ltb room (band_size v)) (Err NoRoom) (Ok (band_size v))
band_answer room (refused r) = Err r

-- ruled as line 0 is: every stripe of a good sheet has a line 0, so that BadLine means only the stripe, and its plane list is judged as for any line
unfoldable pub band_of : List ℕ → PlaneList → List ℕ → ℕ → ℕ → Answer
unfolding ruling_of band_answer
band_of s pl d k room = band_answer room (ruling_of s pl d k 0)

-- the band in front, and the octets past it as they were; a refusal changes nothing
unfoldable pub band_holds : Colour → List ℕ → Ruling → List ℕ
unfolding band_lines band_size
band_holds u out (shows v) = cond (ltb (length out) (band_size v)) out (put_at out 0 (band_lines u v v.extent.height))
band_holds u out (refused a) = out

unfoldable pub band_into : List ℕ → PlaneList → List ℕ → ℕ → Colour → List ℕ → List ℕ
unfolding ruling_of band_holds
band_into s pl d k u out = band_holds u out (ruling_of s pl d k 0)

-- the unseen colour is the caller's, and no answer depends on it
pub record Bands (s : List ℕ) (pl : PlaneList) (d : List ℕ) (k : ℕ) (u : Colour) (out : List ℕ) (a : Answer) (e : List ℕ) : Type 0 where
  pub answers : a ≡ band_of s pl d k (length out)
  pub holds : e ≡ band_into s pl d k u out
