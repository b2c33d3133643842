-- The steps of a line call (01, "Colour of a pixel"; the order under "Numbers that a call returns"). Read Sentences.antt and Demand.antt first, which say
-- when each answer is given and what a line shows: `line_exactly` (proofs/Exactly.antt) and `demand_3` (proofs/Demand3.antt) tie these steps to them.
--
--   unseen_grey         the unseen colour of a call that is given none (02, 2026-01)
--   four_of u p         the four octets of a decided pixel, u being the unseen colour
--   pixels u f n       the octets of the first n pixels of a line
--   line_pixels u v y   the octets of line y of a scene
--   plane_ok            an entry, after the layer listed last: the layer is above it, present, coded, and within the sample buffer
--   planes_judged       BadPlane at the first entry at fault, or at a part entry after whole ones
--   Ruling             the scene to be composed, or the refusal
--   ruling_of           BadSheet, BadLine, BadPlane
--   line_of             what the call answers, where the buffer holds so many octets: after those NoRoom
--   line_into           what the buffer holds afterwards
--   Lines              the call's promise: it answers a, and the buffer is then e
use Rattle.std.specs.Prelude.{ℕ, zero, suc, ◌+◌, ◌*◌, ◌≡◌, Bool, ◌&&◌, cond, List, [], ◌∷◌, ◌++◌, length, leb, ltb, Option, Some, None, Result, Ok, Err, ⊤}
use Rattle.octets.specs.Octets.{put_at}
use Rattle.answers.specs.Answers.{Answer}
use Rattle.answers.specs.declared.Refusal.{Refusal}
use Rattle.answers.specs.declared.Refusal.TheVariants.{NoRoom, BadSheet, BadPlane, BadLine}
use Rattle.sheet_rules.specs.declared.Counts.{Counts}
use Rattle.sheet_rules.specs.declared.Extent.{Extent}
use Rattle.sheet_rules.specs.Judge.{coded, judge_of}
use Rattle.sheet_rules.specs.StripeTable.{find_stripe}
use Rattle.pixel_rules.specs.declared.MainPos.{MainPos}
use Rattle.pixel_rules.specs.declared.Plane.{Plane}
use Rattle.sheet_rules.specs.declared.Colour.{Colour}
use Rattle.pixel_rules.specs.Planes.{PlaneList}
use Rattle.pixel_rules.specs.Samples.{Scene, record_of, width_of, plane_span}
use Rattle.pixel_rules.specs.Decide.{pixel_at}

-- ---- the octets of a line

abbrev pub unseen_grey : Colour
unseen_grey = record { c0 = 128; c1 = 128; c2 = 96 }

-- the colour and 1 for seen, or the unseen colour and 0
unfoldable pub four_of : Colour → Option Colour → List ℕ
four_of u (Some c) = c.c0 ∷ c.c1 ∷ c.c2 ∷ 1 ∷ []
four_of u None = u.c0 ∷ u.c1 ∷ u.c2 ∷ 0 ∷ []

unfoldable pub pixels : Colour → (MainPos → Option Colour) → ℕ → List ℕ
unfolding four_of
pixels u f zero = []
pixels u f (suc x) = pixels u f x ++ four_of u (f (record { 0 = x }))

unfoldable pub line_pixels : Colour → Scene → ℕ → List ℕ
unfolding pixels pixel_at
line_pixels u v y = pixels u (λ (x : MainPos). pixel_at v x (record { 0 = y })) (width_of v)

-- ---- the plane list, judged

-- an absent layer is 0 or above N
unfoldable pub plane_ok : Scene → ℕ → Plane → Bool
unfolding plane_span
plane_ok v last p =
    ltb last p.layer && leb p.layer v.extent.layers
    && coded (record_of v p.layer)
    && leb (p.start + plane_span (record_of v p.layer)) (length v.samples)

-- entry i on, after an entry of layer `last`
unfoldable pub planes_judged : Scene → Bool → ℕ → ℕ → List Plane → Result ⊤ ℕ
unfolding plane_ok
planes_judged v part last i [] = cond part (Err i) (Ok tt)
planes_judged v part last i (p ∷ ps) = cond (plane_ok v last p) (planes_judged v part p.layer (i + 1) ps) (Err i)

-- ---- the call

pub data Ruling : Type 0 where
  shows : Scene → Ruling
  refused : Refusal → Ruling

abbrev pub plane_ruling : Scene → Result ⊤ ℕ → Ruling
plane_ruling v (Ok _) = shows v
plane_ruling v (Err i) = refused (BadPlane i)

-- no layer is listed before the first entry
unfoldable pub scene_ruling : Scene → Bool → Ruling
unfolding planes_judged
scene_ruling v part = plane_ruling v (planes_judged v part 0 0 v.planes)

unfoldable pub stripe_ruling : List ℕ → PlaneList → List ℕ → ℕ → Option Extent → Ruling
unfolding scene_ruling
stripe_ruling s pl d y None = refused BadLine
stripe_ruling s pl d y (Some extent) =
    cond (ltb y extent.height)
    (scene_ruling (record { sheet = s; extent = extent; planes = pl.entries; samples = d }) pl.part)
    (refused BadLine)

unfoldable pub sheet_ruling : List ℕ → PlaneList → List ℕ → ℕ → ℕ → Result Counts ℕ → Ruling
unfolding stripe_ruling
sheet_ruling s pl d k y (Err i) = refused (BadSheet i)
sheet_ruling s pl d k y (Ok c) = stripe_ruling s pl d y (find_stripe s k)

-- line y of stripe k
unfoldable pub ruling_of : List ℕ → PlaneList → List ℕ → ℕ → ℕ → Ruling
unfolding sheet_ruling
ruling_of s pl d k y = sheet_ruling s pl d k y (judge_of s)

-- four octets a pixel
unfoldable pub line_answer : ℕ → Ruling → Answer
line_answer room (shows v) = cond (ltb room (width_of v * 4)) (Err NoRoom) (Ok (width_of v * 4))
line_answer room (refused r) = Err r

unfoldable pub line_of : List ℕ → PlaneList → List ℕ → ℕ → ℕ → ℕ → Answer
unfolding ruling_of line_answer
line_of s pl d k y room = line_answer room (ruling_of s pl d k y)

-- the line in front, and the octets past it as they were; a refusal changes nothing
unfoldable pub line_holds : Colour → List ℕ → ℕ → Ruling → List ℕ
unfolding line_pixels
line_holds u out y (shows v) = cond (ltb (length out) (width_of v * 4)) out (put_at out 0 (line_pixels u v y))
line_holds u out y (refused a) = out

unfoldable pub line_into : List ℕ → PlaneList → List ℕ → ℕ → ℕ → Colour → List ℕ → List ℕ
unfolding ruling_of line_holds
line_into s pl d k y u out = line_holds u out y (ruling_of s pl d k y)

-- the unseen colour is the caller's, and no answer depends on it
pub record Lines (s : List ℕ) (pl : PlaneList) (d : List ℕ) (k y : ℕ) (u : Colour) (out : List ℕ) (a : Answer) (e : List ℕ) : Type 0 where
  pub answers : a ≡ line_of s pl d k y (length out)
  pub holds : e ≡ line_into s pl d k y u out
