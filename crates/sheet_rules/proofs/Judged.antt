-- The judge's answer and the sentences: good exactly if they hold, and otherwise the record at fault.
-- Assumes nothing.
use Prim.Native.Nat.{ℕ, suc, ◌+◌, ◌-◌, ◌%◌, ◌≤◌, ◌<◌}
use native.Mathlib.Nat.{eq-zero-or-pos}
use native.Mathlib.Numerals.{add-one}
use native.Mathlib.Omega.{arith}
use mathlib.Core.Path.{◌≡◌, refl, sym, ap, subst, ◌∙◌}
use mathlib.Core.Logic.{inl, inr, ⊎_elim}
use mathlib.Core.Bool.{Bool, true, false, ◌&&◌, cond, false≢true}
use mathlib.Core.List.{List, [], ◌∷◌, ◌++◌, append-nil}
use lib.ListN.{length, take, take-append-drop, drop}
use lib.Seq.{take-suc, take-take}
use lib.Dec.{eqb}
use Rattle.sheet_rules.specs.declared.Record.{Record}
use Rattle.sheet_rules.specs.declared.State.{State}
use Rattle.std.specs.Prelude.{Option, Some, None, Result, Ok, Err}
use Rattle.sheet_rules.specs.declared.Counts.{Counts}
use Rattle.sheet_rules.specs.Record.{blank, nth}
use Rattle.sheet_rules.specs.Judge.{closes, keeps, begin, after, step_of, end_of, on_step, run, walk, judge}
use Rattle.sheet_rules.specs.Sentences.{Unbroken, Complete, Sheet, stripe_count, Breaks, FaultAt}
use Rattle.laws.proofs.Says.{Says, says_eq, says_le, says_and}
use Rattle.sheet_rules.proofs.New.{says_new}
use Rattle.sheet_rules.proofs.Agrees.{Agrees}
use Rattle.sheet_rules.proofs.Backward.{unbroken_new, unbroken_front}
use Rattle.sheet_rules.proofs.Fold.{step_cases, begun_unbroken, walk_next}

-- ---- where a fold stops

-- the record j: those before it are passed, and it is not kept
record StopsAt (st : State) (i : ℕ) (rs : List Record) (part : ℕ) : Type 0 where
  j : ℕ
  within : j < length rs
  state : State
  passed : run st (take j rs) ≡ Some state
  unkept : keeps state (nth rs j) ≡ false
  answer : walk st i rs part ≡ Err (i + j)

step_true : (st : State) (r : Record) → keeps st r ≡ true → step_of st r ≡ Some (after st r)
unfolding step_of
step_true st r k = ap (λ (b : Bool). cond b (Some (after st r)) None) k

step_false : (st : State) (r : Record) → keeps st r ≡ false → step_of st r ≡ None
unfolding step_of
step_false st r k = ap (λ (b : Bool). cond b (Some (after st r)) None) k

stops_later : (st : State) (i : ℕ) (r : Record) (rs : List Record) (part : ℕ) → keeps st r ≡ true → StopsAt (after st r) (i + 1) rs part → StopsAt st i (r ∷ rs) part
unfolding run walk on_step
stops_later st i r rs part k d =
    let s = step_true st r k in
    let w = d.within in
    let z : i + 1 + d.j ≡ i + suc d.j = omega arith in
    record {
      j = suc d.j;
      within = omega arith;
      state = d.state;
      passed = ap (λ (x : Option State). on_step x None (λ (t : State). run t (take d.j rs))) s ∙ d.passed;
      unkept = d.unkept;
      answer = ap (λ (x : Option State). on_step x (Err i) (λ (t : State). walk t (i + 1) rs part)) s ∙ d.answer ∙ ap Err z;
    }

stops_here : (st : State) (i : ℕ) (r : Record) (rs : List Record) (part : ℕ) → keeps st r ≡ false → StopsAt st i (r ∷ rs) part
unfolding run walk on_step
stops_here st i r rs part k =
    let z : i ≡ i + 0 = omega arith in
    record {
      j = 0;
      within = omega arith;
      state = st;
      passed = refl;
      unkept = k;
      answer = ap (λ (x : Option State). on_step x (Err i) (λ (t : State). walk t (i + 1) rs part)) (step_false st r k) ∙ ap Err z;
    }

stops_at : (st : State) (i : ℕ) (rs : List Record) (part : ℕ) → run st rs ≡ None → StopsAt st i rs part
unfolding run on_step
stops_at st i [] part e = absurd (let z : ◌≡◌ {A = ℕ} 0 1 = cc in omega arith)
stops_at st i (r ∷ rs) part e =
    step_cases (λ x. on_step x None (λ (t : State). run t rs) ≡ None → StopsAt st i (r ∷ rs) part) st r
    (λ k h. stops_later st i r rs part k (stops_at (after st r) (i + 1) rs part h))
    (λ k h. stops_here st i r rs part k)
    e

-- the records up to one that is not kept break a sentence there
stop_breaks : (rs : List Record) (part : ℕ) (d : StopsAt begin 0 rs part) → Breaks rs d.j
stop_breaks rs part d =
    let b = begun_unbroken (take d.j rs) d.state d.passed in
    let t : take (d.j + 1) rs ≡ take d.j rs ++ (nth rs d.j ∷ []) = ap (λ (n : ℕ). take n rs) (add-one d.j) ∙ take-suc rs d.j blank d.within in
    record {
      within = d.within;
      before = b.0;
      broken = λ w.
          let n = unbroken_new (take d.j rs) d.state (nth rs d.j) (subst Unbroken t w) b.1 in
          false≢true (sym d.unkept ∙ (says_new d.state (nth rs d.j)).shown n);
    }

-- ---- the two ways that a judge can go

run_cases : (P : Option State → Type 0) → ((t : State) → P (Some t)) → P None → (x : Option State) → P x
run_cases P on off (Some t) = on t
run_cases P on off None = off

pub judge_next : (rs : List Record) (part : ℕ) (t : State) → run begin rs ≡ Some t → judge rs part ≡ end_of t (length rs) part
unfolding judge walk
judge_next rs part t e =
    let z : 0 + length rs ≡ length rs = omega arith in
    ap (λ (l : List Record). walk begin 0 l part) (sym (append-nil rs)) ∙ walk_next begin t 0 rs [] part e ∙ ap (λ (n : ℕ). end_of t n part) z

pub judge_cases : (rs : List Record) (part : ℕ) (P : Result Counts ℕ → Type 0)
    → ((t : State) → Unbroken rs → Agrees rs t → P (end_of t (length rs) part))
    → ((j : ℕ) → Breaks rs j → P (Err j))
    → P (judge rs part)
unfolding judge
judge_cases rs part P on off =
    run_cases (λ x. run begin rs ≡ x → P (judge rs part))
    (λ t e. let b = begun_unbroken rs t e in subst P (sym (judge_next rs part t e)) (on t b.0 b.1))
    (λ e.
    let d = stops_at begin 0 rs part e in
    let z : 0 + d.j ≡ d.j = omega arith in
    subst P (sym (d.answer ∙ ap Err z)) (off d.j (stop_breaks rs part d)))
    (run begin rs) refl

-- ---- the end

says_closes : (st : State) (part : ℕ) → Says (closes st.layer && eqb part 0) (((st.layer % 2 ≡ 1) × (3 ≤ st.layer)) × (part ≡ 0))
says_closes st part = says_and (says_and (says_eq (st.layer % 2) 1) (says_le 3 st.layer)) (says_eq part 0)

module _ (rs : List Record) (part : ℕ) (st : State) (g : Agrees rs st) where
  complete_closes : Complete rs × (part ≡ 0) → closes st.layer && eqb part 0 ≡ true
  complete_closes k =
      let i : ℕ = length rs - 1 in
      let c = k.0.count in
      let e : i + 1 ≡ length rs = omega arith in
      let l = g.last i e in
      let d = k.0.closing i e in
      (says_closes st part).shown ((omega arith, omega arith), k.1)

  closes_complete : closes st.layer && eqb part 0 ≡ true → Complete rs × (part ≡ 0)
  closes_complete e =
      let k = (says_closes st part).told e in (
        record {
          count = ⊎_elim (λ (z : length rs ≡ 0). let n = g.none z in absurd (omega arith)) (λ (p : 0 < length rs). p) (eq-zero-or-pos (length rs));
          closing = λ i h. let l = g.last i h in (omega arith, omega arith);
        },
        k.1,
      )

  end_cases : (P : Result Counts ℕ → Type 0) → (Complete rs × (part ≡ 0) → P (Ok (record { records = length rs; stripes = stripe_count rs })))
      → ((Complete rs × (part ≡ 0) → ⊥) → P (Err (length rs))) → P (end_of st (length rs) part)
  unfolding end_of
  end_cases P good bad = go (closes st.layer && eqb part 0) refl
    where
      stripes : Complete rs → stripe_count rs ≡ st.stripe + 1
      stripes c = let n = c.count in let l = g.last (length rs - 1) (omega arith) in omega arith

      go : (b : Bool) → closes st.layer && eqb part 0 ≡ b → P (cond b (Ok (record { records = length rs; stripes = st.stripe + 1 })) (Err (length rs)))
      go true e =
          let c = closes_complete e in
          subst (λ (m : ℕ). P (Ok (record { records = length rs; stripes = m }))) (stripes c.0) (good c)
      go false e = bad (λ c. false≢true (sym e ∙ complete_closes c))

-- ---- both together: good with its counts where the sentences hold, and otherwise the record at fault

pub judge_answers : (rs : List Record) (part : ℕ) (P : Result Counts ℕ → Type 0)
    → (Sheet rs → part ≡ 0 → P (Ok (record { records = length rs; stripes = stripe_count rs })))
    → ((i : ℕ) → FaultAt rs part i → P (Err i))
    → P (judge rs part)
judge_answers rs part P good bad =
    judge_cases rs part P
    (λ t u g.
    end_cases rs part t g P
    (λ c. good (record { unbroken = u; complete = c.0 }) c.1)
    (λ c. bad (length rs) (inr (record { due = refl; before = u; broken = c }))))
    (λ j b. bad j (inl b))

-- ---- a sheet at fault is at fault at one record, and is no good sheet

module _ (rs : List Record) (part : ℕ) where
  unbroken_take : (i j : ℕ) → i ≤ j → Unbroken (take j rs) → Unbroken (take i rs)
  unbroken_take i j h u =
      let e : take i rs ++ drop i (take j rs) ≡ take j rs = ap (λ (l : List Record). l ++ drop i (take j rs)) (sym (take-take i j rs h)) ∙ take-append-drop i (take j rs) in
      unbroken_front (take i rs) (drop i (take j rs)) (subst Unbroken (sym e) u)

  unbroken_any : (i : ℕ) → Unbroken rs → Unbroken (take i rs)
  unbroken_any i u = unbroken_front (take i rs) (drop i rs) (subst Unbroken (sym (take-append-drop i rs)) u)

  order : (i j : ℕ) → Breaks rs i → Breaks rs j → i < j → ⊥
  order i j b d h = b.broken (unbroken_take (i + 1) j (omega arith) d.before)

  pub fault_once : (i j : ℕ) → FaultAt rs part i → FaultAt rs part j → i ≡ j
  fault_once i j (inl b) (inl d) = let p = order i j b d in let q = order j i d b in only_equal i j p q
    where
      only_equal : (i j : ℕ) → (i < j → ⊥) → (j < i → ⊥) → i ≡ j
      only_equal i j p q = omega arith
  fault_once i j (inl b) (inr d) = absurd (b.broken (unbroken_any (i + 1) d.before))
  fault_once i j (inr b) (inl d) = absurd (d.broken (unbroken_any (j + 1) b.before))
  fault_once i j (inr b) (inr d) = b.due ∙ sym d.due

  pub fault_no_sheet : (i : ℕ) → FaultAt rs part i → Sheet rs → part ≡ 0 → ⊥
  fault_no_sheet i (inl b) s e = b.broken (unbroken_any (i + 1) s.unbroken)
  fault_no_sheet i (inr b) s e = b.broken (s.complete, e)
