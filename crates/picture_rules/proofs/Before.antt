-- A line with the unseen colour 0 0 0 is the frozen base line (specs/BaseLine.antt), for every input, refused ones too: the same answer, and the same
-- octets in the buffer.
-- Assumes nothing.
use Prim.Native.Nat.{ℕ, zero, suc, ◌+◌, ◌*◌}
use mathlib.Core.Path.{◌≡◌, refl, sym, ap, ◌∙◌}
use mathlib.Core.Logic.{◌↔◌}
use mathlib.Core.Bool.{Bool, cond}
use mathlib.Core.List.{List, [], ◌∷◌}
use lib.ListN.{length}
use lib.Dec.{ltb}
use Rattle.octets.specs.Octets.{put_at}
use Rattle.answers.specs.Answers.{Answer}
use Rattle.answers.specs.declared.Refusal.TheVariants.{BadLine}
use Rattle.sheet_rules.specs.declared.Colour.{Colour}
use Rattle.std.specs.Prelude.{Option, Some, None, Result, Ok, Err, ⊤}
use Rattle.sheet_rules.specs.declared.Counts.{Counts}
use Rattle.sheet_rules.specs.declared.Extent.{Extent}
use Rattle.sheet_rules.specs.Judge.{judge_of}
use Rattle.sheet_rules.specs.StripeTable.{find_stripe}
use Rattle.pixel_rules.specs.declared.MainPos.{MainPos}
use Rattle.pixel_rules.specs.declared.Plane.{Plane}
use Rattle.pixel_rules.specs.Planes.{PlaneList}
use Rattle.pixel_rules.specs.Samples.{Scene, width_of}
use Rattle.pixel_rules.specs.Decide.{pixel_at}
use Rattle.picture_rules.specs.Line.{four_of, pixels, line_pixels, plane_ok, planes_judged, plane_ruling, scene_ruling, stripe_ruling, sheet_ruling, ruling_of, Ruling, shows, refused, line_answer, line_of, line_holds, line_into, Lines}
use Rattle.picture_rules.specs.BaseLine.{base_four, base_pixels, base_plane_ok, base_planes_judged, base_plane_ruling, base_stripe_ruling, base_sheet_ruling, base_ruling, base_answer, base_holds, base_of, base_into, BaseLines}

-- the unseen colour that the base line had
abbrev pub noughts : Colour
noughts = record { c0 = 0; c1 = 0; c2 = 0 }

-- ---- the octets

four_before : (p : Option Colour) → four_of noughts p ≡ base_four p
unfolding four_of base_four
four_before (Some c) = refl
four_before None = refl

pixels_before : (f : MainPos → Option Colour) (n : ℕ) → pixels noughts f n ≡ base_pixels f n
unfolding pixels base_pixels
pixels_before f zero = refl
pixels_before f (suc n) = rw (pixels_before f n, four_before (f (record { 0 = n }))) refl

-- ---- the verdict

ok_before : (v : Scene) (last : ℕ) (p : Plane) → plane_ok v last p ≡ base_plane_ok v last p
unfolding plane_ok base_plane_ok
ok_before v last p = refl

judged_before : (v : Scene) (part : Bool) (last i : ℕ) (ps : List Plane) → planes_judged v part last i ps ≡ base_planes_judged v part last i ps
unfolding planes_judged base_planes_judged
judged_before v part last i [] = refl
judged_before v part last i (p ∷ ps) = rw (ok_before v last p, judged_before v part p.layer (i + 1) ps) refl

plane_before : (v : Scene) (r : Result ⊤ ℕ) → plane_ruling v r ≡ base_plane_ruling v r
unfolding base_plane_ruling
plane_before v (Ok _) = refl
plane_before v (Err i) = refl

module _ (s : List ℕ) (pl : PlaneList) (d : List ℕ) (k y : ℕ) where
  stripe_before : (f : Option Extent) → stripe_ruling s pl d y f ≡ base_stripe_ruling s pl d y f
  unfolding stripe_ruling scene_ruling base_stripe_ruling
  stripe_before None = refl
  stripe_before (Some extent) =
      let v : Scene = record { sheet = s; extent = extent; planes = pl.entries; samples = d } in
      ap (λ (r : Ruling). cond (ltb y extent.height) r (refused BadLine))
      (ap (plane_ruling v) (judged_before v pl.part 0 0 pl.entries) ∙ plane_before v (base_planes_judged v pl.part 0 0 pl.entries))

  sheet_before : (r : Result Counts ℕ) → sheet_ruling s pl d k y r ≡ base_sheet_ruling s pl d k y r
  unfolding sheet_ruling base_sheet_ruling
  sheet_before (Err i) = refl
  sheet_before (Ok c) = stripe_before (find_stripe s k)

  ruling_before : ruling_of s pl d k y ≡ base_ruling s pl d k y
  unfolding ruling_of base_ruling
  ruling_before = sheet_before (judge_of s)

-- ---- the call

answer_before : (room : ℕ) (r : Ruling) → line_answer room r ≡ base_answer room r
unfolding line_answer base_answer
answer_before room (shows v) = refl
answer_before room (refused a) = refl

holds_before : (out : List ℕ) (y : ℕ) (r : Ruling) → line_holds noughts out y r ≡ base_holds out y r
unfolding line_holds line_pixels base_holds
holds_before out y (shows v) =
    ap (λ (l : List ℕ). cond (ltb (length out) (width_of v * 4)) out (put_at out 0 l)) (pixels_before (λ (x : MainPos). pixel_at v x (record { 0 = y })) (width_of v))
holds_before out y (refused a) = refl

module _ (s : List ℕ) (pl : PlaneList) (d : List ℕ) (k y : ℕ) where
  pub answers_before : (room : ℕ) → line_of s pl d k y room ≡ base_of s pl d k y room
  unfolding line_of base_of
  answers_before room = ap (line_answer room) (ruling_before s pl d k y) ∙ answer_before room (base_ruling s pl d k y)

  pub into_before : (out : List ℕ) → line_into s pl d k y noughts out ≡ base_into s pl d k y out
  unfolding line_into base_into
  into_before out = ap (line_holds noughts out y) (ruling_before s pl d k y) ∙ holds_before out y (base_ruling s pl d k y)

  -- ---- the theorem

  pub line_before : (out : List ℕ) (a : Answer) (e : List ℕ) → Lines s pl d k y noughts out a e ↔ BaseLines s pl d k y out a e
  line_before out a e = (
    λ h. record { answers = h.answers ∙ answers_before (length out); holds = h.holds ∙ into_before out },
    λ h. record { answers = h.answers ∙ sym (answers_before (length out)); holds = h.holds ∙ sym (into_before out) },
  )
