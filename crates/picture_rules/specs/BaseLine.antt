-- The line call as it was before the unseen colour became the caller's (02, 2026-01), frozen under its own names for those who look for 0 0 0 0.
-- `line_Before` (proofs/Before.antt) says that a line with the unseen colour 0 0 0 is this one, for every input, and `lined_before` of `call_rules` says
-- it of the calls. It stays as it is when the line of today changes. What both share lies below a call: the judge and the stripe table of the sheet,
-- what a layer's samples take, and the picture of a pixel. So a sheet with a grey layer (02, 2026-07), which was BadSheet then, is one to both.
--
--   base_four p        the colour and 1 for seen, or 0 0 0 0 for unseen
--   base_pixels f n    the octets of the first n pixels of a line
--   base_plane_ok       an entry of the plane list, after the layer listed last
--   base_planes_judged  BadPlane at the first entry at fault, or at a part entry after whole ones
--   base_ruling        BadSheet, BadLine, BadPlane, or the scene to be composed
--   base_of            what the call answered: after those NoRoom
--   base_into          what the buffer held afterwards
--   BaseLines         the call's promise
use Rattle.std.specs.Prelude.{ℕ, zero, suc, ◌+◌, ◌*◌, ◌≡◌, Bool, ◌&&◌, cond, List, [], ◌∷◌, ◌++◌, length, leb, ltb, Option, Some, None, Result, Ok, Err, ⊤}
use Rattle.octets.specs.Octets.{put_at}
use Rattle.answers.specs.Answers.{Answer}
use Rattle.answers.specs.declared.Refusal.TheVariants.{NoRoom, BadSheet, BadPlane, BadLine}
use Rattle.sheet_rules.specs.declared.Colour.{Colour}
use Rattle.sheet_rules.specs.declared.Counts.{Counts}
use Rattle.sheet_rules.specs.declared.Extent.{Extent}
use Rattle.sheet_rules.specs.Judge.{coded, judge_of}
use Rattle.sheet_rules.specs.StripeTable.{find_stripe}
use Rattle.pixel_rules.specs.declared.MainPos.{MainPos}
use Rattle.pixel_rules.specs.declared.Plane.{Plane}
use Rattle.pixel_rules.specs.Planes.{PlaneList}
use Rattle.pixel_rules.specs.Samples.{Scene, record_of, width_of, plane_span}
use Rattle.pixel_rules.specs.Decide.{pixel_at}
use Rattle.picture_rules.specs.Line.{Ruling, shows, refused}

-- ---- the octets

unfoldable pub base_four : Option Colour → List ℕ
base_four (Some c) = c.c0 ∷ c.c1 ∷ c.c2 ∷ 1 ∷ []
base_four None = 0 ∷ 0 ∷ 0 ∷ 0 ∷ []

unfoldable pub base_pixels : (MainPos → Option Colour) → ℕ → List ℕ
unfolding base_four
base_pixels f zero = []
base_pixels f (suc x) = base_pixels f x ++ base_four (f (record { 0 = x }))

-- ---- the verdict

unfoldable pub base_plane_ok : Scene → ℕ → Plane → Bool
base_plane_ok v last p =
    ltb last p.layer && leb p.layer v.extent.layers
    && coded (record_of v p.layer)
    && leb (p.start + plane_span (record_of v p.layer)) (length v.samples)

unfoldable pub base_planes_judged : Scene → Bool → ℕ → ℕ → List Plane → Result ⊤ ℕ
unfolding base_plane_ok
base_planes_judged v part last i [] = cond part (Err i) (Ok tt)
base_planes_judged v part last i (p ∷ ps) = cond (base_plane_ok v last p) (base_planes_judged v part p.layer (i + 1) ps) (Err i)

unfoldable pub base_plane_ruling : Scene → Result ⊤ ℕ → Ruling
base_plane_ruling v (Ok _) = shows v
base_plane_ruling v (Err i) = refused (BadPlane i)

unfoldable pub base_stripe_ruling : List ℕ → PlaneList → List ℕ → ℕ → Option Extent → Ruling
unfolding base_planes_judged base_plane_ruling
base_stripe_ruling s pl d y None = refused BadLine
base_stripe_ruling s pl d y (Some extent) =
    let v : Scene = record { sheet = s; extent = extent; planes = pl.entries; samples = d } in
    cond (ltb y extent.height) (base_plane_ruling v (base_planes_judged v pl.part 0 0 pl.entries)) (refused BadLine)

unfoldable pub base_sheet_ruling : List ℕ → PlaneList → List ℕ → ℕ → ℕ → Result Counts ℕ → Ruling
unfolding base_stripe_ruling
base_sheet_ruling s pl d k y (Err i) = refused (BadSheet i)
base_sheet_ruling s pl d k y (Ok c) = base_stripe_ruling s pl d y (find_stripe s k)

unfoldable pub base_ruling : List ℕ → PlaneList → List ℕ → ℕ → ℕ → Ruling
unfolding base_sheet_ruling
base_ruling s pl d k y = base_sheet_ruling s pl d k y (judge_of s)

-- ---- the call

unfoldable pub base_answer : ℕ → Ruling → Answer
base_answer room (shows v) = cond (ltb room (width_of v * 4)) (Err NoRoom) (Ok (width_of v * 4))
base_answer room (refused r) = Err r

unfoldable pub base_holds : List ℕ → ℕ → Ruling → List ℕ
unfolding base_pixels pixel_at
base_holds out y (shows v) =
    cond (ltb (length out) (width_of v * 4)) out (put_at out 0 (base_pixels (λ (x : MainPos). pixel_at v x (record { 0 = y })) (width_of v)))
base_holds out y (refused a) = out

unfoldable pub base_of : List ℕ → PlaneList → List ℕ → ℕ → ℕ → ℕ → Answer
unfolding base_ruling base_answer
base_of s pl d k y room = base_answer room (base_ruling s pl d k y)

unfoldable pub base_into : List ℕ → PlaneList → List ℕ → ℕ → ℕ → List ℕ → List ℕ
unfolding base_ruling base_holds
base_into s pl d k y out = base_holds out y (base_ruling s pl d k y)

pub record BaseLines (s : List ℕ) (pl : PlaneList) (d : List ℕ) (k y : ℕ) (out : List ℕ) (a : Answer) (e : List ℕ) : Type 0 where
  pub answers : a ≡ base_of s pl d k y (length out)
  pub holds : e ≡ base_into s pl d k y out
