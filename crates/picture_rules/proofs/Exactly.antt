-- A line call answers each number exactly when the sentences have it; and what it refuses with.
-- Assumes nothing.
use Rattle.std.specs.Prelude.{Ok, Err}
use Prim.Native.Nat.{ℕ, ◌*◌, ◌/◌, ◌≤◌}
use native.Mathlib.Omega.{arith}
use mathlib.Core.Path.{◌≡◌, refl, sym, ap, subst}
use mathlib.Core.Logic.{◌↔◌, ◌⊎◌, inl, inr}
use mathlib.Core.List.{List}
use lib.ListN.{length}
use lib.Dec.{ltb}
use borrow.Author.Tests.{ltb-true, ltb-false, lt-ltb, le-ltb}
use Rattle.laws.proofs.Cases.{cond_with}
use Rattle.answers.specs.Answers.{Answer, place_of}
use Rattle.answers.specs.declared.Refusal.TheVariants.{NoRoom, BadSheet, BadPlane, BadLine}
use Rattle.sheet_rules.specs.Record.{record_size, records, rest}
use Rattle.sheet_rules.specs.Sentences.{Accepted, BadSheetAt}
use Rattle.sheet_rules.proofs.Judged.{fault_once, fault_no_sheet}
use Rattle.sheet_rules.proofs.Theorems.{sheet_refused, refused_few}
use Rattle.pixel_rules.specs.Planes.{PlaneList}
use Rattle.pixel_rules.specs.Samples.{Scene, width_of}
use Rattle.picture_rules.specs.Line.{line_answer, line_of}
use Rattle.picture_rules.specs.Sentences.{scene_of, PlaneAt, Gives, no_sheet, no_line, no_plane_lem, no_room, lined}
use Rattle.picture_rules.proofs.Ruled.{plane_once, plane_none, ruling_cases}

module _ (s : List ℕ) (pl : PlaneList) (d : List ℕ) (k y room : ℕ) where
  abbrev scene : Scene
  scene = scene_of s pl d k

  line_gives : Gives s pl d k y room (line_of s pl d k y room)
  unfolding line_of line_answer
  line_gives =
      ruling_cases s pl d k y (λ r. Gives s pl d k y room (line_answer room r))
      (λ i b. no_sheet b)
      (λ a h. no_line a h)
      (λ a h i f. no_plane_lem a h f)
      (λ a h f.
      cond_with (λ x. Gives s pl d k y room x) (ltb room (width_of scene * 4))
      (λ t. no_room a h f (ltb-true room (width_of scene * 4) t))
      (λ t. lined a h f refl (ltb-false room (width_of scene * 4) t)))

  -- ---- from each sentence the answer

  not_bad : {A : Type 0} (i : ℕ) → BadSheetAt s i → Accepted s → A
  not_bad i b a = absurd (fault_no_sheet (records s) (rest s) i b a.0 a.1)

  gives_line : (a : Answer) → Gives s pl d k y room a → line_of s pl d k y room ≡ a
  unfolding line_of line_answer
  gives_line (Err (BadSheet i)) (no_sheet g) =
      ruling_cases s pl d k y (λ r. line_answer room r ≡ Err (BadSheet i))
      (λ j b. ap (λ x. Err (BadSheet x)) (fault_once (records s) (rest s) j i b g))
      (λ a h. not_bad i g a)
      (λ a h j f. not_bad i g a)
      (λ a h f. not_bad i g a)
  gives_line (Err BadLine) (no_line ok none) =
      ruling_cases s pl d k y (λ r. line_answer room r ≡ Err BadLine)
      (λ j b. not_bad j b ok)
      (λ a h. refl)
      (λ a h j f. absurd (none h))
      (λ a h f. absurd (none h))
  gives_line (Err (BadPlane i)) (no_plane_lem ok has at) =
      ruling_cases s pl d k y (λ r. line_answer room r ≡ Err (BadPlane i))
      (λ j b. not_bad j b ok)
      (λ a h. absurd (h has))
      (λ a h j f. ap (λ x. Err (BadPlane x)) (plane_once scene pl j i f at))
      (λ a h f. absurd (plane_none scene pl i at f))
  gives_line (Err NoRoom) (no_room ok has fine less) =
      ruling_cases s pl d k y (λ r. line_answer room r ≡ Err NoRoom)
      (λ j b. not_bad j b ok)
      (λ a h. absurd (h has))
      (λ a h j f. absurd (plane_none scene pl j f fine))
      (λ a h f. simp (lt-ltb room (width_of scene * 4) less))
  gives_line (Ok n) (lined ok has fine e l) =
      ruling_cases s pl d k y (λ r. line_answer room r ≡ Ok n)
      (λ j b. not_bad j b ok)
      (λ a h. absurd (h has))
      (λ a h j f. absurd (plane_none scene pl j f fine))
      (λ a h f.
      let m : width_of scene * 4 ≤ room = omega arith in
      simp (le-ltb room (width_of scene * 4) m) (ap Ok (sym e)))
  gives_line (Err (Rattle.answers.specs.declared.Refusal.TheVariants.Short _)) x'' = elim x'' [ ]
  gives_line (Err (Rattle.answers.specs.declared.Refusal.TheVariants.BadMark _)) x3 = elim x3 [ ]
  gives_line (Err (Rattle.answers.specs.declared.Refusal.TheVariants.BadLength _)) x4 = elim x4 [ ]
  gives_line (Err (Rattle.answers.specs.declared.Refusal.TheVariants.BadVersion _)) x5 = elim x5 [ ]
  gives_line (Err (Rattle.answers.specs.declared.Refusal.TheVariants.BadMode _)) x6 = elim x6 [ ]
  gives_line (Err (Rattle.answers.specs.declared.Refusal.TheVariants.BadCoder _)) x7 = elim x7 [ ]
  gives_line (Err (Rattle.answers.specs.declared.Refusal.TheVariants.BadRes _)) x8 = elim x8 [ ]
  gives_line (Err (Rattle.answers.specs.declared.Refusal.TheVariants.BadWidth _)) x9 = elim x9 [ ]
  gives_line (Err (Rattle.answers.specs.declared.Refusal.TheVariants.BadType _)) x10 = elim x10 [ ]
  gives_line (Err (Rattle.answers.specs.declared.Refusal.TheVariants.BadStripe _)) x11 = elim x11 [ ]
  gives_line (Err (Rattle.answers.specs.declared.Refusal.TheVariants.BadLayer _)) x12 = elim x12 [ ]
  gives_line (Err (Rattle.answers.specs.declared.Refusal.TheVariants.Trailing _)) x13 = elim x13 [ ]
  gives_line (Err (Rattle.answers.specs.declared.Refusal.TheVariants.Mismatch _)) x14 = elim x14 [ ]
  gives_line (Err Rattle.answers.specs.declared.Refusal.TheVariants.TooLong) x14 = elim x14 [ ]

  -- ---- each answer is given exactly when the sentences have it

  pub line_exactly : (a : Answer) → line_of s pl d k y room ≡ a ↔ Gives s pl d k y room a
  line_exactly a = (λ e. subst (Gives s pl d k y room) e line_gives, gives_line a)

-- ---- an answer other than Ok is one of the refusals that the paper's order for lines names: BadSheet at a record's number, at most the number of
-- whole records; BadPlane at an entry's number, at most the number of whole entries; BadLine or NoRoom, which have no place

abbrev pub LineRefusal : ℕ → ℕ → Answer → Type 0
LineRefusal records entries a =
    ((a ≡ Err (BadSheet (place_of a))) × (place_of a ≤ records))
    ⊎ (a ≡ Err BadLine)
    ⊎ ((a ≡ Err (BadPlane (place_of a))) × (place_of a ≤ entries))
    ⊎ (a ≡ Err NoRoom)

plane_at_lem : (v : Scene) (pl : PlaneList) (i : ℕ) → PlaneAt v pl i → i ≤ length pl.entries
plane_at_lem v pl i (inl b) = let w = b.within in omega arith
plane_at_lem v pl i (inr b) = let w = b.due in omega arith

module _ (s : List ℕ) (pl : PlaneList) (d : List ℕ) (k y room : ℕ) where
  gives_refusal : (a : Answer) → Gives s pl d k y room a → ((n : ℕ) → a ≡ Ok n → ⊥) → LineRefusal (length s / record_size) (length pl.entries) a
  unfolding place_of
  gives_refusal (Err (BadSheet i)) (no_sheet g) h = inl (refl, (refused_few s i ((sheet_refused s i).1 g)).1)
  gives_refusal (Err BadLine) (no_line ok none) h = inr (inl refl)
  gives_refusal (Err (BadPlane i)) (no_plane_lem ok has at) h = inr (inr (inl (refl, plane_at_lem (scene_of s pl d k) pl i at)))
  gives_refusal (Err NoRoom) (no_room ok has fine less) h = inr (inr (inr refl))
  gives_refusal (Ok n) (lined ok has fine e l) h = absurd (h n refl)
  gives_refusal (Err (Rattle.answers.specs.declared.Refusal.TheVariants.Short _)) x3 h = elim x3 [ ]
  gives_refusal (Err (Rattle.answers.specs.declared.Refusal.TheVariants.BadMark _)) x4 h = elim x4 [ ]
  gives_refusal (Err (Rattle.answers.specs.declared.Refusal.TheVariants.BadLength _)) x5 h = elim x5 [ ]
  gives_refusal (Err (Rattle.answers.specs.declared.Refusal.TheVariants.BadVersion _)) x6 h = elim x6 [ ]
  gives_refusal (Err (Rattle.answers.specs.declared.Refusal.TheVariants.BadMode _)) x7 h = elim x7 [ ]
  gives_refusal (Err (Rattle.answers.specs.declared.Refusal.TheVariants.BadCoder _)) x8 h = elim x8 [ ]
  gives_refusal (Err (Rattle.answers.specs.declared.Refusal.TheVariants.BadRes _)) x9 h = elim x9 [ ]
  gives_refusal (Err (Rattle.answers.specs.declared.Refusal.TheVariants.BadWidth _)) x10 h = elim x10 [ ]
  gives_refusal (Err (Rattle.answers.specs.declared.Refusal.TheVariants.BadType _)) x11 h = elim x11 [ ]
  gives_refusal (Err (Rattle.answers.specs.declared.Refusal.TheVariants.BadStripe _)) x12 h = elim x12 [ ]
  gives_refusal (Err (Rattle.answers.specs.declared.Refusal.TheVariants.BadLayer _)) x13 h = elim x13 [ ]
  gives_refusal (Err (Rattle.answers.specs.declared.Refusal.TheVariants.Trailing _)) x14 h = elim x14 [ ]
  gives_refusal (Err (Rattle.answers.specs.declared.Refusal.TheVariants.Mismatch _)) x15 h = elim x15 [ ]
  gives_refusal (Err Rattle.answers.specs.declared.Refusal.TheVariants.TooLong) x15 h = elim x15 [ ]

  pub line_refused : ((n : ℕ) → line_of s pl d k y room ≡ Ok n → ⊥) → LineRefusal (length s / record_size) (length pl.entries) (line_of s pl d k y room)
  line_refused h = gives_refusal (line_of s pl d k y room) (line_gives s pl d k y room) h
