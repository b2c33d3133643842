-- A band call answers each number exactly when the sentences have it.
-- Assumes nothing.
use Rattle.std.specs.Prelude.{Ok, Err}
use Prim.Native.Nat.{ℕ}
use native.Mathlib.Omega.{arith}
use mathlib.Core.Path.{◌≡◌, refl, sym, ap, subst, ◌∙◌}
use mathlib.Core.Logic.{◌↔◌}
use mathlib.Core.List.{List}
use lib.Dec.{ltb}
use borrow.Author.Tests.{ltb-true, ltb-false, lt-ltb, le-ltb}
use Rattle.laws.proofs.Cases.{cond_with}
use Rattle.answers.specs.Answers.{Answer}
use Rattle.answers.specs.declared.Refusal.TheVariants.{NoRoom, BadSheet, BadPlane, BadLine}
use Rattle.sheet_rules.specs.Record.{records, rest}
use Rattle.sheet_rules.specs.Sentences.{Accepted, BadSheetAt}
use Rattle.sheet_rules.proofs.Judged.{fault_once, fault_no_sheet}
use Rattle.pixel_rules.specs.Planes.{PlaneList}
use Rattle.pixel_rules.specs.Samples.{Scene}
use Rattle.picture_rules.specs.Sentences.{scene_of}
use Rattle.picture_rules.proofs.Ruled.{plane_once, plane_none}
use Rattle.band_rules.specs.Band.{band_size, band_answer, band_of}
use Rattle.band_rules.specs.Sentences.{band_octets, GivesBand, no_sheet, no_stripe, no_plane_lem, no_room, banded}
use Rattle.band_rules.proofs.Ruled.{band_cases}

-- four octets a pixel, in whichever order they are counted
pub size_octets : (v : Scene) → band_size v ≡ band_octets v
unfolding band_size
size_octets v = omega arith

module _ (s : List ℕ) (pl : PlaneList) (d : List ℕ) (k room : ℕ) where
  abbrev scene : Scene
  scene = scene_of s pl d k

  band_gives : GivesBand s pl d k room (band_of s pl d k room)
  unfolding band_of band_answer
  band_gives =
      let z = size_octets scene in
      band_cases s pl d k (λ r. GivesBand s pl d k room (band_answer room r))
      (λ i b. no_sheet b)
      (λ a h. no_stripe a h)
      (λ a h i f. no_plane_lem a h f)
      (λ a h f.
      cond_with (λ x. GivesBand s pl d k room x) (ltb room (band_size scene))
      (λ t. let l = ltb-true room (band_size scene) t in no_room a h f (omega arith))
      (λ t. banded a h f z (ltb-false room (band_size scene) t)))

  -- ---- from each sentence the answer

  not_bad : {A : Type 0} (i : ℕ) → BadSheetAt s i → Accepted s → A
  not_bad i b a = absurd (fault_no_sheet (records s) (rest s) i b a.0 a.1)

  gives_band : (a : Answer) → GivesBand s pl d k room a → band_of s pl d k room ≡ a
  unfolding band_of band_answer
  gives_band (Err (BadSheet i)) (no_sheet g) =
      band_cases s pl d k (λ r. band_answer room r ≡ Err (BadSheet i))
      (λ j b. ap (λ x. Err (BadSheet x)) (fault_once (records s) (rest s) j i b g))
      (λ a h. not_bad i g a)
      (λ a h j f. not_bad i g a)
      (λ a h f. not_bad i g a)
  gives_band (Err BadLine) (no_stripe ok none) =
      band_cases s pl d k (λ r. band_answer room r ≡ Err BadLine)
      (λ j b. not_bad j b ok)
      (λ a h. refl)
      (λ a h j f. absurd (none h))
      (λ a h f. absurd (none h))
  gives_band (Err (BadPlane i)) (no_plane_lem ok has at) =
      band_cases s pl d k (λ r. band_answer room r ≡ Err (BadPlane i))
      (λ j b. not_bad j b ok)
      (λ a h. absurd (h has))
      (λ a h j f. ap (λ x. Err (BadPlane x)) (plane_once scene pl j i f at))
      (λ a h f. absurd (plane_none scene pl i at f))
  gives_band (Err NoRoom) (no_room ok has fine less) =
      band_cases s pl d k (λ r. band_answer room r ≡ Err NoRoom)
      (λ j b. not_bad j b ok)
      (λ a h. absurd (h has))
      (λ a h j f. absurd (plane_none scene pl j f fine))
      (λ a h f. let z = size_octets scene in simp (lt-ltb room (band_size scene) (omega arith)) refl)
  gives_band (Ok n) (banded ok has fine e l) =
      band_cases s pl d k (λ r. band_answer room r ≡ Ok n)
      (λ j b. not_bad j b ok)
      (λ a h. absurd (h has))
      (λ a h j f. absurd (plane_none scene pl j f fine))
      (λ a h f.
      let z = size_octets scene in
      simp (le-ltb room (band_size scene) (omega arith)) (ap Ok (z ∙ sym e)))
  gives_band (Err (Rattle.answers.specs.declared.Refusal.TheVariants.Short _)) x'' = elim x'' [ ]
  gives_band (Err (Rattle.answers.specs.declared.Refusal.TheVariants.BadMark _)) x3 = elim x3 [ ]
  gives_band (Err (Rattle.answers.specs.declared.Refusal.TheVariants.BadLength _)) x4 = elim x4 [ ]
  gives_band (Err (Rattle.answers.specs.declared.Refusal.TheVariants.BadVersion _)) x5 = elim x5 [ ]
  gives_band (Err (Rattle.answers.specs.declared.Refusal.TheVariants.BadMode _)) x6 = elim x6 [ ]
  gives_band (Err (Rattle.answers.specs.declared.Refusal.TheVariants.BadCoder _)) x7 = elim x7 [ ]
  gives_band (Err (Rattle.answers.specs.declared.Refusal.TheVariants.BadRes _)) x8 = elim x8 [ ]
  gives_band (Err (Rattle.answers.specs.declared.Refusal.TheVariants.BadWidth _)) x9 = elim x9 [ ]
  gives_band (Err (Rattle.answers.specs.declared.Refusal.TheVariants.BadType _)) x10 = elim x10 [ ]
  gives_band (Err (Rattle.answers.specs.declared.Refusal.TheVariants.BadStripe _)) x11 = elim x11 [ ]
  gives_band (Err (Rattle.answers.specs.declared.Refusal.TheVariants.BadLayer _)) x12 = elim x12 [ ]
  gives_band (Err (Rattle.answers.specs.declared.Refusal.TheVariants.Trailing _)) x13 = elim x13 [ ]
  gives_band (Err (Rattle.answers.specs.declared.Refusal.TheVariants.Mismatch _)) x14 = elim x14 [ ]
  gives_band (Err Rattle.answers.specs.declared.Refusal.TheVariants.TooLong) x14 = elim x14 [ ]

  -- ---- each answer is given exactly when the sentences have it

  pub band_exactly : (a : Answer) → band_of s pl d k room ≡ a ↔ GivesBand s pl d k room a
  band_exactly a = (λ e. subst (GivesBand s pl d k room) e band_gives, gives_band a)
