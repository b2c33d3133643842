-- A request for coded data is answered by each number exactly when the sentences have it; and what it is refused with.
-- Assumes nothing.
use Rattle.std.specs.Prelude.{Ok, Err}
use Prim.Native.Nat.{ℕ, ◌/◌, ◌≤◌, ◌<◌}
use native.Mathlib.Omega.{arith}
use mathlib.Core.Path.{◌≡◌, refl, sym, ap, subst, ◌∙◌}
use mathlib.Core.Logic.{◌↔◌, ◌⊎◌, inl, inr, ⊎_elim}
use mathlib.Core.List.{List}
use lib.ListN.{length}
use borrow.Author.Tests.{eq-eqb, ne_eqb}
use Rattle.sheet_rules.proofs.Cut.{records_count}
use Rattle.laws.proofs.Says.{says_eq, says_else}
use Rattle.answers.specs.Answers.{Answer, place_of}
use Rattle.answers.specs.declared.Refusal.TheVariants.{Short, BadSheet, BadLine}
use Rattle.sheet_rules.specs.declared.Record.{Record}
use Rattle.sheet_rules.specs.Record.{record_size, records, rest, nth}
use Rattle.sheet_rules.specs.Sentences.{Accepted, BadSheetAt}
use Rattle.sheet_rules.proofs.Judged.{fault_once, fault_no_sheet}
use Rattle.sheet_rules.proofs.Theorems.{sheet_refused, refused_few}
use Rattle.data_rules.specs.Data.{part_in, data_by, data_of}
use Rattle.data_rules.specs.Sentences.{LayerAt, Fits, Passes, Gives, no_sheet, no_layer, passing, handed}
use Rattle.data_rules.proofs.Layer.{layer_once, passes_not}
use Rattle.data_rules.proofs.Cases.{found_cases}

-- the part of a record is as long as the record says, also where that is 0
pub part_len : (l : ℕ) (r : Record) → (part_in l r).len ≡ r.len
unfolding part_in
part_len l r =
    ⊎_elim (λ (e : r.len ≡ 0). simp (eq-eqb r.len 0 e) (sym e)) (λ (d : r.len ≡ 0 → ⊥). simp (ne_eqb r.len 0 d)) (says_else (says_eq r.len 0))

module _ (s page pencil : List ℕ) (k l : ℕ) where
  data_gives : Gives s page pencil k l (data_of s page pencil k l)
  unfolding data_of data_by
  data_gives =
      found_cases s page pencil k l (λ f. Gives s page pencil k l (data_by f))
      (λ i b. no_sheet b)
      (λ a n. no_layer a n)
      (λ a i y p. passing a y p)
      (λ a i y f. handed a (record { place = i; layer = y; fits = f; count = part_len l (nth (records s) i) }))

  -- ---- from each sentence the answer

  not_bad : {A : Type 0} (i : ℕ) → BadSheetAt s i → Accepted s → A
  not_bad i b a = absurd (fault_no_sheet (records s) (rest s) i b a.0 a.1)

  same_place : Accepted s → (i j : ℕ) → LayerAt (records s) k l i → LayerAt (records s) k l j → i ≡ j
  same_place a i j y x = layer_once (records s) a.0 k l i j y x

  gives_data : (a : Answer) → Gives s page pencil k l a → data_of s page pencil k l ≡ a
  unfolding data_of data_by
  gives_data (Err (BadSheet i)) (no_sheet g) =
      found_cases s page pencil k l (λ f. data_by f ≡ Err (BadSheet i))
      (λ j b. ap (λ x. Err (BadSheet x)) (fault_once (records s) (rest s) j i b g))
      (λ a n. not_bad i g a)
      (λ a j y p. not_bad i g a)
      (λ a j y f. not_bad i g a)
  gives_data (Err BadLine) (no_layer ok none) =
      found_cases s page pencil k l (λ f. data_by f ≡ Err BadLine)
      (λ j b. not_bad j b ok)
      (λ a n. refl)
      (λ a j y p. absurd (none j y))
      (λ a j y f. absurd (none j y))
  gives_data (Err (Short i)) (passing ok at past) =
      found_cases s page pencil k l (λ f. data_by f ≡ Err (Short i))
      (λ j b. not_bad j b ok)
      (λ a n. absurd (n i at))
      (λ a j y p. ap (λ x. Err (Short x)) (same_place a j i y at))
      (λ a j y f. absurd (passes_not page pencil l (nth (records s) j) (subst (λ (x : ℕ). Passes page pencil l (nth (records s) x)) (same_place a i j at y) past) f))
  gives_data (Ok n) (handed ok h) =
      found_cases s page pencil k l (λ f. data_by f ≡ Ok n)
      (λ j b. not_bad j b ok)
      (λ a z. absurd (z h.place h.layer))
      (λ a j y p. absurd (passes_not page pencil l (nth (records s) j) p (subst (λ (x : ℕ). Fits page pencil l (nth (records s) x)) (same_place a h.place j h.layer y) h.fits)))
      (λ a j y f. ap Ok (part_len l (nth (records s) j) ∙ ap (λ (x : ℕ). (nth (records s) x).len) (same_place a j h.place y h.layer) ∙ sym h.count))
  gives_data (Err (Rattle.answers.specs.declared.Refusal.TheVariants.BadMark _)) x'' = elim x'' [ ]
  gives_data (Err (Rattle.answers.specs.declared.Refusal.TheVariants.BadLength _)) x3 = elim x3 [ ]
  gives_data (Err (Rattle.answers.specs.declared.Refusal.TheVariants.BadVersion _)) x4 = elim x4 [ ]
  gives_data (Err (Rattle.answers.specs.declared.Refusal.TheVariants.BadMode _)) x5 = elim x5 [ ]
  gives_data (Err (Rattle.answers.specs.declared.Refusal.TheVariants.BadCoder _)) x6 = elim x6 [ ]
  gives_data (Err (Rattle.answers.specs.declared.Refusal.TheVariants.BadRes _)) x7 = elim x7 [ ]
  gives_data (Err (Rattle.answers.specs.declared.Refusal.TheVariants.BadWidth _)) x8 = elim x8 [ ]
  gives_data (Err (Rattle.answers.specs.declared.Refusal.TheVariants.BadType _)) x9 = elim x9 [ ]
  gives_data (Err (Rattle.answers.specs.declared.Refusal.TheVariants.BadStripe _)) x10 = elim x10 [ ]
  gives_data (Err (Rattle.answers.specs.declared.Refusal.TheVariants.BadLayer _)) x11 = elim x11 [ ]
  gives_data (Err (Rattle.answers.specs.declared.Refusal.TheVariants.Trailing _)) x12 = elim x12 [ ]
  gives_data (Err Rattle.answers.specs.declared.Refusal.TheVariants.NoRoom) x12 = elim x12 [ ]
  gives_data (Err (Rattle.answers.specs.declared.Refusal.TheVariants.BadPlane _)) x14 = elim x14 [ ]
  gives_data (Err (Rattle.answers.specs.declared.Refusal.TheVariants.Mismatch _)) x15 = elim x15 [ ]
  gives_data (Err Rattle.answers.specs.declared.Refusal.TheVariants.TooLong) x15 = elim x15 [ ]

  -- ---- each answer is given exactly when the sentences have it

  pub data_exactly : (a : Answer) → data_of s page pencil k l ≡ a ↔ Gives s page pencil k l a
  data_exactly a = (λ e. subst (Gives s page pencil k l) e data_gives, gives_data a)

-- ---- an answer other than Ok is one of the refusals that the paper's order for coded data names: BadSheet at a record's number, at most the number of
-- whole records; BadLine, which has no place; Short at the number of a whole record

abbrev pub DataRefusal : ℕ → Answer → Type 0
DataRefusal records a =
    ((a ≡ Err (BadSheet (place_of a))) × (place_of a ≤ records))
    ⊎ (a ≡ Err BadLine)
    ⊎ ((a ≡ Err (Short (place_of a))) × (place_of a < records))

module _ (s page pencil : List ℕ) (k l : ℕ) where
  gives_refusal : (a : Answer) → Gives s page pencil k l a → ((n : ℕ) → a ≡ Ok n → ⊥) → DataRefusal (length s / record_size) a
  unfolding place_of
  gives_refusal (Err (BadSheet i)) (no_sheet g) h = inl (refl, (refused_few s i ((sheet_refused s i).1 g)).1)
  gives_refusal (Err BadLine) (no_layer ok none) h = inr (inl refl)
  gives_refusal (Err (Short i)) (passing ok at past) h = let w = at.within in let c = records_count s in inr (inr (refl, omega arith))
  gives_refusal (Ok n) (handed ok g) h = absurd (h n refl)
  gives_refusal (Err (Rattle.answers.specs.declared.Refusal.TheVariants.BadMark _)) x3 h = elim x3 [ ]
  gives_refusal (Err (Rattle.answers.specs.declared.Refusal.TheVariants.BadLength _)) x4 h = elim x4 [ ]
  gives_refusal (Err (Rattle.answers.specs.declared.Refusal.TheVariants.BadVersion _)) x5 h = elim x5 [ ]
  gives_refusal (Err (Rattle.answers.specs.declared.Refusal.TheVariants.BadMode _)) x6 h = elim x6 [ ]
  gives_refusal (Err (Rattle.answers.specs.declared.Refusal.TheVariants.BadCoder _)) x7 h = elim x7 [ ]
  gives_refusal (Err (Rattle.answers.specs.declared.Refusal.TheVariants.BadRes _)) x8 h = elim x8 [ ]
  gives_refusal (Err (Rattle.answers.specs.declared.Refusal.TheVariants.BadWidth _)) x9 h = elim x9 [ ]
  gives_refusal (Err (Rattle.answers.specs.declared.Refusal.TheVariants.BadType _)) x10 h = elim x10 [ ]
  gives_refusal (Err (Rattle.answers.specs.declared.Refusal.TheVariants.BadStripe _)) x11 h = elim x11 [ ]
  gives_refusal (Err (Rattle.answers.specs.declared.Refusal.TheVariants.BadLayer _)) x12 h = elim x12 [ ]
  gives_refusal (Err (Rattle.answers.specs.declared.Refusal.TheVariants.Trailing _)) x13 h = elim x13 [ ]
  gives_refusal (Err Rattle.answers.specs.declared.Refusal.TheVariants.NoRoom) x13 h = elim x13 [ ]
  gives_refusal (Err (Rattle.answers.specs.declared.Refusal.TheVariants.BadPlane _)) x15 h = elim x15 [ ]
  gives_refusal (Err (Rattle.answers.specs.declared.Refusal.TheVariants.Mismatch _)) x16 h = elim x16 [ ]
  gives_refusal (Err Rattle.answers.specs.declared.Refusal.TheVariants.TooLong) x16 h = elim x16 [ ]

  pub data_refused : ((n : ℕ) → data_of s page pencil k l ≡ Ok n → ⊥) → DataRefusal (length s / record_size) (data_of s page pencil k l)
  data_refused h = gives_refusal (data_of s page pencil k l) (data_gives s page pencil k l) h
