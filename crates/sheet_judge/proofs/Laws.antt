-- One law for each way out of the judge's functions: its premises are what is known there.
-- Assumes nothing.
use mathlib.Core.Path.{◌≡◌, sym, ap, ap₂, ◌∙◌}
use Prim.Native.Nat.{ℕ, ◌+◌, ◌-◌, ◌/◌, ◌≤◌, ◌<◌}
use native.Mathlib.Omega.{arith}
use mathlib.Core.Bool.{Bool, true, false, ◌&&◌}
use mathlib.Core.List.{List}
use lib.ListN.{length}
use lib.Dec.{eqb}
use borrow.Author.Tests.{eq-eqb, ne_eqb}
use borrow.Author.Rules.{rules}
use Rattle.octets.proofs.Entries.{entries_next, entries_none}
use Rattle.answers.specs.declared.Refusal.TheVariants.{BadSheet}
use Rattle.sheet_rules.specs.declared.Record.{Record}
use Rattle.sheet_rules.specs.declared.State.{State}
use Rattle.std.specs.Prelude.{Option, Some, None, Result, Ok, Err}
use Rattle.sheet_rules.specs.declared.Counts.{Counts}
use Rattle.sheet_rules.specs.Record.{record_size, record_at, records_from, rest}
use Rattle.sheet_rules.specs.Judge.{closes, keeps, begin, after, after1, after2, after3, step_of, end_of, on_step, walk, judge, judge_of, answer_of, sheet_answer}
use Rattle.sheet_rules.proofs.Theorems.{refused_few}

-- ---- the state after a record

module _ (st t : State) (r : Record) where
  pub after_one : r.layer ≡ 1 → t ≡ after1 st r → t ≡ after st r
  unfolding after
  after_one e h = simp (eq-eqb r.layer 1 e) h

  pub after_two : (r.layer ≡ 1 → ⊥) → r.layer ≡ 2 → t ≡ after2 st r → t ≡ after st r
  unfolding after
  after_two d e h = simp (ne_eqb r.layer 1 d, eq-eqb r.layer 2 e) h

  pub after_more : (r.layer ≡ 1 → ⊥) → (r.layer ≡ 2 → ⊥) → t ≡ after3 st r → t ≡ after st r
  unfolding after
  after_more d e h = simp (ne_eqb r.layer 1 d, ne_eqb r.layer 2 e) h

  -- ---- one step

  pub step_on : (b : Bool) → b ≡ keeps st r → b ≡ true → t ≡ after st r → Some t ≡ step_of st r
  unfolding step_of
  step_on b k e h = simp (sym k ∙ e, h)

pub step_off : (st : State) (r : Record) (b : Bool) → b ≡ keeps st r → b ≡ false → None ≡ step_of st r
unfolding step_of
step_off st r b k e = simp (sym k ∙ e)

-- ---- the end

pub end_good : (st : State) (n part : ℕ) (b : Bool) → b ≡ closes st.layer → b && eqb part 0 ≡ true → Ok (record { records = n; stripes = st.stripe + 1 }) ≡ end_of st n part
unfolding end_of
end_good st n part b k e = simp (sym k, e)

pub end_bad : (st : State) (n part : ℕ) (b : Bool) → b ≡ closes st.layer → b && eqb part 0 ≡ false → Err n ≡ end_of st n part
unfolding end_of
end_bad st n part b k e = simp (sym k, e)

-- ---- the loop: it begins, a record is passed, a record stops it, it ends

module _ (s : List ℕ) where
  abbrev from : ℕ → ℕ → State → Result Counts ℕ
  from n i st = walk st i (records_from s (n - i) i) (rest s)

  pub walk_begin : (n : ℕ) (st : State) → n ≡ length s / record_size → st ≡ begin → judge_of s ≡ walk st 0 (records_from s (n - 0) 0) (rest s)
  unfolding judge_of judge
  walk_begin n st e h =
      let z : length s / record_size ≡ n - 0 = omega arith in
      ap₂ (λ (k : ℕ) (t : State). walk t 0 (records_from s k 0) (rest s)) z (sym h)

  module _ (n i : ℕ) (st : State) (r : Record) (x : Option State) (j : judge_of s ≡ walk st i (records_from s (n - i) i) (rest s)) (h : i < n)
      (e : r ≡ record_at s i) (k : x ≡ step_of st r) where
    walk_opened : judge_of s ≡ on_step x (Err i) (λ (t : State). walk t (i + 1) (records_from s (n - (i + 1)) (i + 1)) (rest s))
    unfolding walk on_step
    walk_opened =
        let q : step_of st (record_at s i) ≡ x = ap (step_of st) (sym e) ∙ sym k in
        j
        ∙ ap (λ (rs : List Record). walk st i rs (rest s)) (entries_next (record_at s) n i h)
        ∙ ap (λ (y : Option State). on_step y (Err i) (λ (t : State). walk t (i + 1) (records_from s (n - (i + 1)) (i + 1)) (rest s))) q

    pub walk_on : (t : State) → x ≡ Some t → judge_of s ≡ walk t (i + 1) (records_from s (n - (i + 1)) (i + 1)) (rest s)
    unfolding on_step
    walk_on t q = walk_opened ∙ ap (λ (y : Option State). on_step y (Err i) (λ (t : State). walk t (i + 1) (records_from s (n - (i + 1)) (i + 1)) (rest s))) q

    pub walk_off : x ≡ None → Err i ≡ judge_of s
    unfolding on_step
    walk_off q = sym (walk_opened ∙ ap (λ (y : Option State). on_step y (Err i) (λ (t : State). walk t (i + 1) (records_from s (n - (i + 1)) (i + 1)) (rest s))) q)

  pub walk_end : (n i : ℕ) (st : State) (v : Result Counts ℕ) → judge_of s ≡ walk st i (records_from s (n - i) i) (rest s) → i ≤ n → n ≤ i → v ≡ end_of st n (rest s) → v ≡ judge_of s
  unfolding walk
  walk_end n i st v j h g e =
      let y : i ≡ n = omega arith in
      e ∙ sym (j ∙ ap (λ (rs : List Record). walk st i rs (rest s)) (entries_none (record_at s) n i g) ∙ ap (λ (k : ℕ). end_of st k (rest s)) y)

-- ---- the answer

module _ (s : List ℕ) (v : Result Counts ℕ) (j : v ≡ judge_of s) where
  -- a record at fault has a small number
  pub fault_small : (i : ℕ) → v ≡ Err i → i < 4294967296
  fault_small i e = let f = refused_few s i (sym j ∙ e) in omega arith

  pub answer_good : (c : Counts) → v ≡ Ok c → Ok c.records ≡ sheet_answer s
  unfolding sheet_answer answer_of
  answer_good c e = ap answer_of (sym e ∙ j)

  pub answer_bad : (i : ℕ) → v ≡ Err i → Err (BadSheet i) ≡ sheet_answer s
  unfolding sheet_answer answer_of
  answer_bad i e = ap answer_of (sym e ∙ j)

pub ruleset judging = (fault_small, answer_good, answer_bad, rules, after_one, after_two, after_more, step_on, step_off, end_good, end_bad, walk_begin, walk_on, walk_off, walk_end)
