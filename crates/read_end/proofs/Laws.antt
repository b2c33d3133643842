-- The end of page: its second FF D9, and zero octets only.
-- Assumes nothing.
use Prim.Native.Nat.{ℕ, zero, suc, ◌+◌, ◌-◌, ◌≤◌, ◌<◌}
use native.Mathlib.Omega.{arith}
use mathlib.Core.Path.{◌≡◌, refl, sym, ap, subst, ◌∙◌}
use mathlib.Core.Bool.{Bool, true, false}
use mathlib.Core.Logic.{⊎_elim}
use mathlib.Core.List.{List, [], ◌∷◌, ◌++◌}
use lib.ListN.{length, get_or, drop, replicate, drop_of_length-le}
use lib.Dec.{ltb}
use borrow.Author.Rules.{rules}
use borrow.Author.Tests.{ne_eqb}
use Rattle.laws.proofs.Cases.{bool_else, clash}
use Rattle.octets.specs.Octets.{stands_at}
use Rattle.octets.proofs.Laws.{drop_octet}
use Rattle.octets.proofs.Runs.{run_end, Run, run_back}
use Rattle.answers.specs.declared.Refusal.TheVariants.{BadMark, Trailing}
use Rattle.field_rules.specs.Field.{Res, ok, no, bind, fields}
use Rattle.page_rules.specs.Reading.{zeros_of, end_table}
use Rattle.std.specs.Prelude.{Result, Ok, Err, ⊤}
use Rattle.answers.specs.declared.Refusal.{Refusal}
use Rattle.read_end.specs.Ends.{zeros_from, close_of}
use Rattle.read_field.specs.Judged.{field_of, judged_of}
use Rattle.read_field.proofs.Lines.{line_begin, line_mark, line_end}

-- ---- trailing
pub zeros_over : (s : List ℕ) (i : ℕ) → length s ≤ i → Ok tt ≡ zeros_from s i
unfolding zeros_from zeros_of
zeros_over s i h = sym (simp (drop_of_length-le s h))

zeros_passed : (k : ℕ) (l : List ℕ) (i : ℕ) → zeros_of (replicate k 0 ++ l) i ≡ zeros_of l (i + k)
unfolding zeros_of
zeros_passed zero l i = let z : i ≡ i + 0 = omega arith in ap (zeros_of l) z
zeros_passed (suc k) l i = let z : suc i + k ≡ i + suc k = omega arith in zeros_passed k l (suc i) ∙ ap (zeros_of l) z

module _ (s : List ℕ) (from : ℕ) (h : from < length s) {i : ℕ} (q : i ≡ run_end 0 s from) where
  run : Run 0 s from i
  run = subst (Run 0 s from) (sym q) (run_back 0 s from (omega arith))

  zeros_same : zeros_from s from ≡ zeros_from s i
  unfolding zeros_from
  zeros_same =
      let a = run.after in
      let z : from + (i - from) ≡ i = omega arith in
      ap (λ (l : List ℕ). judged_of (zeros_of l from)) run.stands
      ∙ ap judged_of (zeros_passed (i - from) (drop i s) from ∙ ap (zeros_of (drop i s)) z)

  pub zeros_all : length s ≤ i → Ok tt ≡ zeros_from s from
  zeros_all l = zeros_over s i l ∙ sym zeros_same

  pub zeros_stop : i < length s → Err (Trailing i) ≡ zeros_from s from
  unfolding zeros_from zeros_of
  zeros_stop l = sym (zeros_same ∙ simp (drop_octet s i l, ne_eqb (get_or s i 0) 0 (run.other l)))

-- ---- judge_end
bind_refused : {A B : Type 0} (x : Res A) (go : A → ℕ → Res B) (a : Refusal) → judged_of x ≡ Err a → judged_of (bind x go) ≡ Err a
unfolding judged_of bind
bind_refused (ok v n) go a e = clash cc
bind_refused (no b) go a e = e

close_by : (s : List ℕ) (at : ℕ) → judged_of (fields end_table [] s at) ≡ Ok tt → zeros_from s (at + 2) ≡ close_of s at
unfolding end_table fields close_of zeros_from judged_of bind
close_by s at =
    ⊎_elim (λ (l : ltb (length s) (at + 2) ≡ true). simp l (λ e. clash cc))
    (λ (l : ltb (length s) (at + 2) ≡ false).
    ⊎_elim (λ (m : stands_at s at (0xFF ∷ 0xD9 ∷ []) ≡ true). simp (l, m) (λ e. refl))
    (λ (m : stands_at s at (0xFF ∷ 0xD9 ∷ []) ≡ false). simp (l, m) (λ e. clash cc))
    (bool_else (stands_at s at (0xFF ∷ 0xD9 ∷ []))))
    (bool_else (ltb (length s) (at + 2)))

module _ (s : List ℕ) (at : ℕ) {b : Bool} (t : b ≡ stands_at s at (0xFF ∷ 0xD9 ∷ [])) {r : Result ⊤ Refusal} (e : r ≡ field_of s (Ok tt) at 2 b (BadMark at)) where
  marked : r ≡ judged_of (fields end_table [] s at)
  unfolding end_table
  marked = line_end (line_mark (line_begin s end_table at) at refl e t)

  pub close_refused : {a : Refusal} → r ≡ Err a → Err a ≡ close_of s at
  unfolding close_of
  close_refused y = sym (bind_refused (fields end_table [] s at) (λ (es : List ℕ) (e : ℕ). zeros_of (drop e s) e) _ (sym marked ∙ y))

  pub close_fine : {q : Result ⊤ Refusal} → r ≡ Ok tt → q ≡ zeros_from s (at + 2) → q ≡ close_of s at
  close_fine y h = h ∙ close_by s at (sym marked ∙ y)

pub ruleset ending = (rules, zeros_over, zeros_all, zeros_stop, close_refused, close_fine)
