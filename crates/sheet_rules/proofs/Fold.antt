-- The fold over records: it goes on exactly while no sentence is broken, and what the judge answers by it.
-- Assumes nothing.
use Prim.Native.Nat.{ℕ, suc, ◌+◌}
use native.Mathlib.Omega.{arith}
use mathlib.Core.Path.{◌≡◌, refl, sym, ap, subst, ◌∙◌}
use mathlib.Core.Bool.{Bool, true, false, cond}
use mathlib.Core.List.{List, [], ◌∷◌, ◌++◌, append-nil}
use lib.ListN.{length}
use lib.Seq.{append_snoc}
use Rattle.sheet_rules.specs.declared.Record.{Record}
use Rattle.sheet_rules.specs.declared.State.{State}
use Rattle.std.specs.Prelude.{Option, Some, None, Err}
use Rattle.sheet_rules.specs.Judge.{keeps, begin, after, step_of, on_step, run, walk}
use Rattle.sheet_rules.specs.Sentences.{Unbroken}
use Rattle.sheet_rules.proofs.New.{New, says_new}
use Rattle.sheet_rules.proofs.Agrees.{Agrees, agrees_begin, agrees_more}
use Rattle.sheet_rules.proofs.Forward.{unbroken_none, unbroken_more}
use Rattle.sheet_rules.proofs.Backward.{unbroken_new, unbroken_front}

-- ---- one step

pub step_cases : (P : Option State → Type 0) (st : State) (r : Record) → (keeps st r ≡ true → P (Some (after st r))) → (keeps st r ≡ false → P None) → P (step_of st r)
unfolding step_of
step_cases P st r yes_then else = go (keeps st r) refl
  where
    go : (b : Bool) → keeps st r ≡ b → P (cond b (Some (after st r)) None)
    go true e = yes_then e
    go false e = else e

pub step_next : (st : State) (r : Record) → New st r → step_of st r ≡ Some (after st r)
unfolding step_of
step_next st r n = ap (λ (b : Bool). cond b (Some (after st r)) None) ((says_new st r).shown n)

stop_next : {A : Type 0} {t : State} → None ≡ Some t → A
stop_next e = absurd (let z : ◌≡◌ {A = ℕ} 0 1 = cc in omega arith)

-- ---- the fold

pub run_append : (st : State) (ps qs : List Record) → run st (ps ++ qs) ≡ on_step (run st ps) None (λ (t : State). run t qs)
unfolding run on_step
run_append st [] qs = refl
run_append st (p ∷ ps) qs =
    step_cases (λ x. on_step x None (λ (t : State). run t (ps ++ qs)) ≡ on_step (on_step x None (λ (t : State). run t ps)) None (λ (t : State). run t qs)) st p
    (λ k. run_append (after st p) ps qs)
    (λ k. refl)

-- what holds at the start and is kept by each record that the judge keeps holds wherever the fold goes on
module _ (P : List Record → State → Type 0)
    (more : (rs : List Record) (st : State) (r : Record) → Agrees rs st → New st r → P rs st → P (rs ++ (r ∷ [])) (after st r)) where
  pub run_holds : (ps : List Record) (st t : State) (qs : List Record) → Agrees ps st → P ps st → run st qs ≡ Some t
      → Agrees (ps ++ qs) t × P (ps ++ qs) t
  unfolding run on_step
  run_holds ps st t [] g p e =
      let s : st ≡ t = cc in
      rw append-nil (subst (λ (x : State). Agrees ps x × P ps x) s (g, p))
  run_holds ps st t (q ∷ qs) g p e =
      step_cases (λ x. on_step x None (λ (v : State). run v qs) ≡ Some t → Agrees (ps ++ q ∷ qs) t × P (ps ++ q ∷ qs) t) st q
      (λ k h.
      let n = (says_new st q).told k in
      subst (λ (l : List Record). Agrees l t × P l t) (append_snoc ps q qs)
      (run_holds (ps ++ (q ∷ [])) (after st q) t qs (agrees_more ps st q g n) (more ps st q g n p) h))
      (λ k h. stop_next h)
      e

  pub begun_holds : (rs : List Record) (t : State) → P [] begin → run begin rs ≡ Some t → Agrees rs t × P rs t
  begun_holds rs t p e = run_holds [] begin t rs agrees_begin p e

-- where no sentence is broken the fold goes on
pub unbroken_run : (ps : List Record) (st : State) (qs : List Record) → Agrees ps st → Unbroken (ps ++ qs) → (t : State) × (run st qs ≡ Some t)
unfolding run on_step
unbroken_run ps st [] g w = (st, refl)
unbroken_run ps st (q ∷ qs) g w =
    let w' : Unbroken ((ps ++ (q ∷ [])) ++ qs) = subst Unbroken (sym (append_snoc ps q qs)) w in
    let n = unbroken_new ps st q (unbroken_front (ps ++ (q ∷ [])) qs w') g in
    let k = unbroken_run (ps ++ (q ∷ [])) (after st q) qs (agrees_more ps st q g n) w' in
    (k.0, ap (λ (x : Option State). on_step x None (λ (v : State). run v qs)) (step_next st q n) ∙ k.1)

-- where the fold goes on no sentence is broken, and the state agrees
pub begun_unbroken : (rs : List Record) (t : State) → run begin rs ≡ Some t → Unbroken rs × Agrees rs t
begun_unbroken rs t e =
    let k = begun_holds (λ ps st. Unbroken ps) (λ ps st r g n u. unbroken_more ps st r u g n) rs t unbroken_none e in (k.1, k.0)

pub unbroken_begun : (rs : List Record) → Unbroken rs → (t : State) × (run begin rs ≡ Some t)
unbroken_begun rs w = unbroken_run [] begin rs agrees_begin w

-- ---- the walk, by the fold

-- records over which the fold goes on are passed
pub walk_next : (st t : State) (i : ℕ) (ps qs : List Record) (part : ℕ) → run st ps ≡ Some t → walk st i (ps ++ qs) part ≡ walk t (i + length ps) qs part
unfolding run walk on_step
walk_next st t i [] qs part e =
    let s : st ≡ t = cc in
    let z : i ≡ i + 0 = omega arith in
    ap (λ (x : State). walk x i qs part) s ∙ ap (λ (k : ℕ). walk t k qs part) z
walk_next st t i (p ∷ ps) qs part e =
    let z : i + 1 + length ps ≡ i + suc (length ps) = omega arith in
    step_cases
    (λ x. on_step x None (λ (v : State). run v ps) ≡ Some t
    → on_step x (Err i) (λ (v : State). walk v (i + 1) (ps ++ qs) part) ≡ walk t (i + suc (length ps)) qs part)
    st p
    (λ k h. walk_next (after st p) t (i + 1) ps qs part h ∙ ap (λ (n : ℕ). walk t n qs part) z)
    (λ k h. stop_next h)
    e

-- where the fold stops, what comes after does not matter
pub walk_stop : (st : State) (i : ℕ) (ps qs : List Record) (part part' : ℕ) → run st ps ≡ None → walk st i (ps ++ qs) part ≡ walk st i ps part'
unfolding run walk on_step
walk_stop st i [] qs part part' e = stop_next (sym e)
walk_stop st i (p ∷ ps) qs part part' e =
    step_cases
    (λ x. on_step x None (λ (v : State). run v ps) ≡ None
    → on_step x (Err i) (λ (v : State). walk v (i + 1) (ps ++ qs) part) ≡ on_step x (Err i) (λ (v : State). walk v (i + 1) ps part'))
    st p
    (λ k h. walk_stop (after st p) (i + 1) ps qs part part' h)
    (λ k h. refl)
    e
