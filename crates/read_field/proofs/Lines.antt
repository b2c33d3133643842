-- A table in code against the table of fields: each line judges the next field, and what all of them come to is the table's reading.
-- Assumes nothing.
use Prim.Native.Nat.{ℕ, ◌+◌, ◌-◌}
use mathlib.Core.Path.{◌≡◌, refl, sym, ap, ◌∙◌}
use mathlib.Core.Bool.{Bool, true, false, cond}
use mathlib.Core.List.{List, [], ◌∷◌, ◌++◌}
use mathlib.Core.Logic.{⊎_elim}
use lib.ListN.{length}
use lib.Dec.{leb, ltb}
use borrow.Author.Tests.{ltb-true, ltb-false, le-leb, lt-leb}
use Rattle.laws.proofs.Cases.{bool_else}
use Rattle.octets.specs.Octets.{stands_at}
use Rattle.answers.specs.declared.Refusal.{Refusal}
use Rattle.answers.specs.declared.Refusal.TheVariants.{Short}
use Rattle.field_rules.specs.Field.{Res, no, Width, widths, numbers, Field, mark, val, again, fields}
use Rattle.std.specs.Prelude.{Result, Ok, Err, ⊤}
use Rattle.read_field.specs.Judged.{held_of, field_of, judged_of}

-- r, and then the rest where it is fine
onward : Result ⊤ Refusal → Result ⊤ Refusal → Result ⊤ Refusal
onward (Ok _) q = q
onward (Err a) q = Err a

-- with r so far and this table to come, all comes to `total`
pub record Line (s : List ℕ) (table : List Field) (before : List ℕ) (at : ℕ) (r total : Result ⊤ Refusal) : Type 0 where
  same : onward r (judged_of (fields table before s at)) ≡ total

pub line_begin : (s : List ℕ) (table : List Field) (at : ℕ) → Line s table [] at (Ok tt) (judged_of (fields table [] s at))
unfolding onward
line_begin s table at = record { same = refl }

pub line_end : {s before : List ℕ} {at : ℕ} {r total : Result ⊤ Refusal} → Line s [] before at r total → r ≡ total
unfolding onward fields judged_of
line_end {r = Ok _} l = l.same
line_end {r = Err a} l = l.same

-- a rule
onward_held : (r : Result ⊤ Refusal) (good : Bool) (refusal : Refusal) (q : Result ⊤ Refusal) → onward (held_of r good refusal) q ≡ onward r (cond good q (Err refusal))
unfolding onward held_of
onward_held (Ok _) true refusal q = refl
onward_held (Ok _) false refusal q = refl
onward_held (Err a) good refusal q = refl

judged_good : (good : Bool) (refusal : Refusal) (x : Res (List ℕ)) → judged_of (cond good x (no refusal)) ≡ cond good (judged_of x) (Err refusal)
unfolding judged_of
judged_good true refusal x = refl
judged_good false refusal x = refl

-- a field is judged in code as in its row
judged_field : (l n : ℕ) (short refusal : Refusal) (good : Bool) (x : Res (List ℕ))
    → judged_of (cond (ltb l n) (no short) (cond good x (no refusal))) ≡ cond (leb n l) (cond good (judged_of x) (Err refusal)) (Err short)
unfolding judged_of
judged_field l n short refusal good x =
    ⊎_elim (λ (t : ltb l n ≡ true). simp (t, lt-leb n l (ltb-true l n t)))
    (λ (t : ltb l n ≡ false). simp (t, le-leb n l (ltb-false l n t)) (judged_good good refusal x))
    (bool_else (ltb l n))

onward_field : (s : List ℕ) (r : Result ⊤ Refusal) (at n : ℕ) (good : Bool) (refusal : Refusal) (x : Res (List ℕ))
    → onward (field_of s r at n good refusal) (judged_of x) ≡ onward r (judged_of (cond (ltb (length s) (at + n)) (no (Short at)) (cond good x (no refusal))))
unfolding field_of
onward_field s r at n good refusal x =
    onward_held (held_of r (leb (at + n) (length s)) (Short at)) good refusal (judged_of x)
    ∙ onward_held r (leb (at + n) (length s)) (Short at) (cond good (judged_of x) (Err refusal))
    ∙ ap (onward r) (sym (judged_field (length s) (at + n) (Short at) refusal good x))

module _ {s : List ℕ} {table : List Field} {before : List ℕ} {at : ℕ} {r total : Result ⊤ Refusal} where
  pub line_mark : {m : List ℕ} {refusal : ℕ → Refusal} → Line s (mark m refusal ∷ table) before at r total → (p : ℕ) {q : Result ⊤ Refusal} {b : Bool} → p ≡ at
      → q ≡ field_of s r p (length m) b (refusal p) → b ≡ stands_at s p m → Line s table before (at + length m) q total
  unfolding fields
  line_mark {m} {refusal} l p e f g =
      record { same = rw (f, g, e) (onward_field s r at (length m) (stands_at s at m) (refusal at) (fields table before s (at + length m)) ∙ l.same) }

  pub line_val : {ws : List Width} {good : List ℕ → List ℕ → Bool} {refusal : ℕ → Refusal} → Line s (val ws good refusal ∷ table) before at r total → (p : ℕ)
      {q : Result ⊤ Refusal} {b : Bool} → p ≡ at → q ≡ field_of s r p (widths ws) b (refusal p) → b ≡ good before (numbers ws s p)
      → Line s table (before ++ numbers ws s at) (at + widths ws) q total
  unfolding fields
  line_val {ws} {good} {refusal} l p e f g =
      record { same = rw (f, g, e) (onward_field s r at (widths ws) (good before (numbers ws s at)) (refusal at) (fields table (before ++ numbers ws s at) s (at + widths ws)) ∙ l.same) }

  pub line_again : {back : ℕ} {good : List ℕ → Bool} {refusal : ℕ → Refusal} → Line s (again back good refusal ∷ table) before at r total → (p : ℕ) {q : Result ⊤ Refusal}
      {b : Bool} → p ≡ at - back → q ≡ held_of r b (refusal p) → b ≡ good before → Line s table before at q total
  unfolding fields
  line_again {back} {good} {refusal} l p e f g =
      record {
        same =
            rw (f, g, e)
            (onward_held r (good before) (refusal (at - back)) (judged_of (fields table before s at))
            ∙ ap (onward r) (sym (judged_good (good before) (refusal (at - back)) (fields table before s at))) ∙ l.same);
      }
