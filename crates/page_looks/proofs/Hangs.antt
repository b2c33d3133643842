-- Reading depends on the octets up to where it looked: two lists that agree so far are read alike, refusals too.
-- Assumes nothing.
use Prim.Native.Nat.{ℕ, ◌+◌, ◌-◌, ◌≤◌}
use native.Mathlib.Omega.{arith}
use mathlib.Core.Path.{◌≡◌, refl, sym, ap, ap₂}
use mathlib.Core.Bool.{Bool, true, false, cond}
use mathlib.Core.List.{List, [], ◌∷◌, ◌++◌}
use lib.ListN.{length}
use lib.Dec.{ltb}
use borrow.Author.Tests.{ltb-false}
use Rattle.answers.specs.declared.Refusal.{Refusal}
use Rattle.answers.specs.declared.Refusal.TheVariants.{Short}
use Rattle.laws.proofs.Cases.{cond_both}
use Rattle.octets.specs.Octets.{stands_at}
use Rattle.octets.proofs.Agree.{Agree, octet_agree, be16_agree, be32_agree, stands_agree, Hangs, hangs_none, hangs_then, hangs_fits}
use Rattle.field_rules.specs.Field.{Res, ok, no, Width, one, two, four, octet_count, widths, number_at, numbers, Field, mark, val, again, fields}

-- how far reading looked: to the end of the last field, or of the field at fault; where a number read before is at fault, up to where that was seen
unfoldable pub reach : List Field → List ℕ → List ℕ → ℕ → ℕ
unfolding widths numbers
reach [] before s at = at
reach (mark m refusal ∷ table) before s at =
    cond (ltb (length s) (at + length m)) at (cond (stands_at s at m) (reach table before s (at + length m)) (at + length m))
reach (val ws good refusal ∷ table) before s at =
    cond (ltb (length s) (at + widths ws)) at
    (cond (good before (numbers ws s at)) (reach table (before ++ numbers ws s at) s (at + widths ws)) (at + widths ws))
reach (again back good refusal ∷ table) before s at = cond (good before) (reach table before s at) at

module _ (e : ℕ) (s t : List ℕ) (a : Agree e s t) where
  number_agree : (w : Width) (at : ℕ) → at + octet_count w ≤ e → number_at w s at ≡ number_at w t at
  number_agree one at h = octet_agree e s t a at (omega arith)
  number_agree two at h = be16_agree e s t a at h
  number_agree four at h = be32_agree e s t a at h

  pub numbers_agree : (ws : List Width) (at : ℕ) → at + widths ws ≤ e → numbers ws s at ≡ numbers ws t at
  unfolding numbers widths
  numbers_agree [] at h = refl
  numbers_agree (w ∷ ws) at h =
      ap₂ (λ (x : ℕ) (l : List ℕ). x ∷ l) (number_agree w at (omega arith)) (numbers_agree ws (at + octet_count w) (omega arith))

-- not Short
abbrev pub Whole : {A : Type 0} → Res A → Type 0
Whole r = (p : ℕ) → r ≡ no (Short p) → ⊥

-- ---- a field

-- a test of numbers known already, and then the fields after it
module _ (refusal : Refusal) (table : List Field) (before s : List ℕ) (at : ℕ) (h : at ≤ length s)
    (rest : Whole (fields table before s at) → Hangs (reach table before s at) (λ (t : List ℕ). fields table before t at) s at) where
  test_hangs : (b : Bool) → Whole (cond b (fields table before s at) (no refusal))
      → Hangs (cond b (reach table before s at) at) (λ (t : List ℕ). cond b (fields table before t at) (no refusal)) s at
  test_hangs true w = rest w
  test_hangs false w = hangs_none s (no refusal) at at (omega arith) h

-- a field of n octets, whatever it is: its test, and the numbers known after it, are of those octets alone
module _ (n at : ℕ) (test : List ℕ → Bool) (known : List ℕ → List ℕ) (refusal : Refusal) (table : List Field) where
  abbrev read_field : List ℕ → Res (List ℕ)
  read_field s = cond (ltb (length s) (at + n)) (no (Short at)) (cond (test s) (fields table (known s) s (at + n)) (no refusal))

  abbrev look_field : List ℕ → ℕ
  look_field s = cond (ltb (length s) (at + n)) at (cond (test s) (reach table (known s) s (at + n)) (at + n))

  field_hangs : (s : List ℕ) → ((t : List ℕ) → Agree (at + n) s t → (test t ≡ test s) × (known t ≡ known s))
      → (at + n ≤ length s → Whole (fields table (known s) s (at + n)) → Hangs (reach table (known s) s (at + n)) (λ (t : List ℕ). fields table (known s) t (at + n)) s (at + n))
      → Whole (read_field s) → Hangs (look_field s) read_field s at
  field_hangs s alone rest =
      cond_both (λ (x : Res (List ℕ)) (l : ℕ). Whole x → Hangs l read_field s at) (ltb (length s) (at + n)) (λ l w. absurd (w at refl)) λ l w.
      let g = ltb-false (length s) (at + n) l in
      let look : ℕ = cond (test s) (reach table (known s) s (at + n)) (at + n) in
      hangs_fits s (no (Short at)) (λ (t : List ℕ). on (test t, known t) t) (at + n) look at (omega arith)
      (hangs_then s (λ (t : List ℕ). (test t, known t)) on (test s, known s) (at + n) look (at + n) refl
      (record { ahead = omega arith; inside = g; same = λ t a. let z = alone t a in ap₂ (λ (b : Bool) (k : List ℕ). (b, k)) z.0 z.1 })
      (test_hangs refusal table (known s) s (at + n) g (rest g) (test s) w))
    where
      on : Bool × List ℕ → List ℕ → Res (List ℕ)
      on p t = cond p.0 (fields table p.1 t (at + n)) (no refusal)

-- ---- a segment

pub fields_hang : (table : List Field) (before s : List ℕ) (at : ℕ) → at ≤ length s → Whole (fields table before s at)
    → Hangs (reach table before s at) (λ (t : List ℕ). fields table before t at) s at
unfolding fields reach
fields_hang [] before s at h w = hangs_none s (ok before at) at at (omega arith) h
fields_hang (mark m refusal ∷ table) before s at h w =
    field_hangs (length m) at (λ (t : List ℕ). stands_at t at m) (λ (t : List ℕ). before) (refusal at) table s
    (λ t a. (sym (stands_agree (at + length m) s t a m at (omega arith)), refl))
    (λ g v. fields_hang table before s (at + length m) g v) w
fields_hang (val ws good refusal ∷ table) before s at h w =
    field_hangs (widths ws) at (λ (t : List ℕ). good before (numbers ws t at)) (λ (t : List ℕ). before ++ numbers ws t at) (refusal at) table s
    (λ t a. let n = sym (numbers_agree (at + widths ws) s t a ws at (omega arith)) in (ap (good before) n, ap (λ (l : List ℕ). before ++ l) n))
    (λ g v. fields_hang table (before ++ numbers ws s at) s (at + widths ws) g v) w
fields_hang (again back good refusal ∷ table) before s at h w =
    test_hangs (refusal (at - back)) table before s at h (fields_hang table before s at h) (good before) w
