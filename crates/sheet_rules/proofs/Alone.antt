-- A stripe by itself: where a stripe begins, the judge goes on as it would from the stripe's number, the height left and the page's
-- width and resolution alone.
-- Assumes nothing.
use Prim.Native.Nat.{ℕ, suc, ◌+◌, ◌-◌, ◌%◌, ◌≤◌, ◌<◌}
use native.Mathlib.Nat.{eq-zero-or-pos}
use native.Mathlib.Numerals.{add-one}
use native.Mathlib.Omega.{arith}
use mathlib.Core.Path.{◌≡◌, sym, ap, subst, ◌∙◌}
use mathlib.Core.Logic.{⊎_elim}
use mathlib.Core.Bool.{true, false}
use mathlib.Core.List.{List, ◌∷◌, ◌++◌}
use lib.ListN.{length}
use lib.Dec.{eqb}
use borrow.Author.Tests.{eq-eqb, ne_eqb, le-leb}
use Rattle.sheet_rules.specs.declared.Record.{Record}
use Rattle.sheet_rules.specs.declared.State.{State}
use Rattle.std.specs.Prelude.{Option, None}
use Rattle.sheet_rules.specs.Record.{nth}
use Rattle.sheet_rules.specs.Judge.{closes, keeps, begin, after, after1, step_of, on_step, run}
use Rattle.sheet_rules.specs.Sentences.{Closing, Above, Opening, heights, Unbroken, Complete, stripe_count}
use Rattle.sheet_rules.specs.StripeTable.{entering}
use Rattle.sheet_rules.proofs.Among.{nth_among}
use Rattle.sheet_rules.proofs.Agrees.{Agrees}
use Rattle.sheet_rules.proofs.Fold.{run_append, begun_unbroken, unbroken_begun}

-- a state in which a stripe may stop, by what the next stripe sees of it
abbrev next_of : State → State
next_of st = record { stripe = st.stripe; layer = 3; coded1 = false; coded2 = false; res1 = 0; main = st.main; width = st.width; left = st.left }

module _ (st : State) (r : Record) (e : r.layer ≡ 1) (h : 3 ≤ st.layer) (c : closes st.layer ≡ true) where
  not_next : (l : ℕ) → 3 ≤ l → eqb r.layer (l + 1) ≡ false
  not_next l k = ne_eqb r.layer (l + 1) (λ z. omega arith)

  same_keeps : keeps st r ≡ keeps (next_of st) r
  unfolding keeps
  same_keeps = simp (not_next st.layer h, not_next 3 (omega arith), c, eq-eqb r.layer 1 e)

  same_after : after st r ≡ after (next_of st) r
  unfolding after after1
  same_after = simp (eq-eqb r.layer 1 e)

  same_step : step_of st r ≡ step_of (next_of st) r
  unfolding step_of
  same_step = simp (same_keeps, same_after)

-- ---- what the next stripe sees, said of the records

module _ (ps : List Record) (t : State) (u : Unbroken ps) (c : Complete ps) (g : Agrees ps t) where
  last_layer : Closing (nth ps (length ps - 1))
  last_layer = let n = c.count in c.closing (length ps - 1) (omega arith)

  last_agrees : ((nth ps (length ps - 1)).stripe ≡ t.stripe) × ((nth ps (length ps - 1)).layer ≡ t.layer)
  last_agrees = let n = c.count in g.last (length ps - 1) (omega arith)

  -- a complete stripe has more than one record, and the second of all is layer 2 of stripe 0
  two_records : 1 < length ps
  two_records =
      let n = c.count in
      ⊎_elim
      (λ (z : length ps - 1 ≡ 0).
      let f = u.first (omega arith) in
      let l = subst (λ (i : ℕ). Closing (nth ps i)) z last_layer in
      absurd (omega arith))
      (λ (p : 0 < length ps - 1). omega arith)
      (eq-zero-or-pos (length ps - 1))

  second_layer : (nth ps 1).layer ≡ 2
  second_layer =
      let n = two_records in
      let f = u.first (omega arith) in
      ⊎_elim (λ (k : Above (nth ps 0) (nth ps 1)). omega arith) (λ (k : Opening (nth ps 0) (nth ps 1)). absurd (omega arith)) (u.next 0 n)

  entered : entering (stripe_count ps) (65535 - heights ps) (nth ps 1).width (nth ps 1).res ≡ next_of t
  unfolding entering
  entered =
      let w = g.twos (nth ps 1) (nth_among ps 1 two_records) second_layer in
      let l = g.left in
      let h : 65535 - heights ps ≡ t.left = omega arith in
      let s : stripe_count ps ≡ suc t.stripe = add-one (nth ps (length ps - 1)).stripe ∙ ap suc last_agrees.0 in
      simp (s, h, w.0, w.1)

pub stripe_alone : (ps : List Record) (r : Record) (qs : List Record) → Unbroken ps → Complete ps → r.layer ≡ 1
    → run begin (ps ++ (r ∷ qs)) ≡ run (entering (stripe_count ps) (65535 - heights ps) (nth ps 1).width (nth ps 1).res) (r ∷ qs)
unfolding run on_step
stripe_alone ps r qs u c e =
    let b = unbroken_begun ps u in
    let t = b.0 in
    let g = (begun_unbroken ps t b.1).1 in
    let k = last_layer ps t u c g in
    let a = last_agrees ps t u c g in
    let cl : closes t.layer ≡ true = simp (eq-eqb (t.layer % 2) 1 (omega arith), le-leb 3 t.layer (omega arith)) in
    run_append begin ps (r ∷ qs)
    ∙ ap (λ (x : Option State). on_step x None (λ (v : State). run v (r ∷ qs))) b.1
    ∙ ap (λ (x : Option State). on_step x None (λ (v : State). run v qs)) (same_step t r e (omega arith) cl)
    ∙ ap (λ (v : State). run v (r ∷ qs)) (sym (entered ps t u c g))
