-- The records of a page's stripes are a sheet that the judge accepts, where each stripe's are accepted as that stripe's.
--
--   Ready     the judge's state where a stripe begins
--   Ran       what a stripe's records make of it: the state where the next one begins
--
-- Assumes nothing.
use Prim.Native.Nat.{ℕ, suc, ◌+◌, ◌-◌, ◌%◌, ◌≤◌, ◌<◌}
use native.Mathlib.Omega.{arith}
use native.Mathlib.Nat.{eq-zero-or-pos}
use mathlib.Core.Path.{◌≡◌, refl, sym, ap, ◌∙◌}
use mathlib.Core.Logic.{◌⊎◌, inl, ⊎_elim}
use mathlib.Core.List.Memᴰ
use mathlib.Core.List.{List, ◌++◌, append_assoc}
use lib.ListN.{length, drop, length-append, length-drop}
use Rattle.octets.proofs.Laws.{drop_next}
use Rattle.sheet_rules.specs.declared.Record.{Record}
use Rattle.sheet_rules.specs.declared.State.{State}
use Rattle.std.specs.Prelude.{Option, Some, None}
use Rattle.sheet_rules.specs.Judge.{begin, on_step, run}
use Rattle.sheet_rules.specs.Sentences.{Among, Sheet}
use Rattle.sheet_rules.proofs.Fold.{run_append, begun_unbroken}
use Rattle.body_rules.specs.Body.{Stripes, last, next}

-- before the first record, or behind a stripe that may stop there, on a page of this main resolution and width
abbrev pub Between : ℕ → ℕ → ℕ → State → Type 0
Between main width k st = (st.stripe + 1 ≡ k) × ((st.layer % 2 ≡ 1) × (3 ≤ st.layer)) × (st.main ≡ main) × (st.width ≡ width)

pub record Ready (main width k left : ℕ) (st : State) : Type 0 where
  pub place : ((k ≡ 0) × (st.stripe ≡ 0) × (st.layer ≡ 0)) ⊎ Between main width k st
  pub left_is : st.left ≡ left

pub record Ran (main width k left height : ℕ) (st : State) (rs : List Record) : Type 0 where
  pub t : State
  pub went : run st rs ≡ Some t
  pub ready : Ready main width (suc k) (left - height) t

run_more : (st t : State) (ps qs : List Record) → run st ps ≡ Some t → run st (ps ++ qs) ≡ run t qs
unfolding on_step
run_more st t ps qs e = run_append st ps qs ∙ ap (λ (x : Option State). on_step x None (λ (v : State). run v qs)) e

record Whole (st : State) (rs : List Record) : Type 0 where
  t : State
  went : run st rs ≡ Some t
  closed : (t.layer % 2 ≡ 1) × (3 ≤ t.layer)

module _ (Stripe : ℕ → ℕ → ℕ → List ℕ → ℕ → List Record → Type 0) (main width longest : ℕ)
    (ran : (k left at : ℕ) (l : List ℕ) (height : ℕ) (rs : List Record) → Stripe k left at l height rs → k < 64 → at + length l ≤ longest → (st : State) → Ready main width k left st
    → Ran main width k left height st rs) where
  stripes_ran : {k left at : ℕ} {l : List ℕ} {rs : List Record} → Stripes Stripe k left at l rs → (st : State) → Ready main width k left st → at + length l ≤ longest → Whole st rs
  unfolding run
  stripes_ran {k} (last some) st rdy small =
      record {
        t = st;
        went = refl;
        closed = ⊎_elim (λ (y : (k ≡ 0) × (st.stripe ≡ 0) × (st.layer ≡ 0)). absurd (omega arith)) (λ (y : Between main width k st). y.1) rdy.place;
      }
  stripes_ran {k} {left} {at} (next {l = l} {more = more} {rs = rs} {sr = sr} height few z rest) st rdy small =
      let a = length-append l more in
      let x = ran k left at l height rs z few (omega arith) st rdy in
      let y = stripes_ran rest x.t x.ready (omega arith) in
      record { t = y.t; went = run_more st x.t rs sr x.went ∙ y.went; closed = y.closed }

  pub stripes_accepted : {at : ℕ} {l : List ℕ} {rs : List Record} → Stripes Stripe 0 65535 at l rs → at + length l ≤ longest → Sheet rs
  stripes_accepted {rs = rs} z h =
      let w = stripes_ran z begin (record { place = inl (refl, refl, refl); left_is = refl }) h in
      let b = begun_unbroken rs w.t w.went in
      let g = b.1 in
      let c0 = w.closed.0 in
      let c1 = w.closed.1 in
      record {
        unbroken = b.0;
        complete =
            record {
              count = ⊎_elim (λ (z : length rs ≡ 0). let n = g.none z in absurd (omega arith)) (λ (q : 0 < length rs). q) (eq-zero-or-pos (length rs));
              closing = λ i e. let q = g.last i e in (omega arith, omega arith);
            };
      }

-- ---- what holds of each stripe's records, with the octets of the page behind them, holds of all

-- of the octets of one and of more the first stand here, and the others after them
pub record Onward (s : List ℕ) (at : ℕ) (l rest : List ℕ) : Type 0 where
  pub here : drop at s ≡ l ++ rest
  pub further : drop (at + length l) s ≡ rest
  pub within : at + length l ≤ length s

pub stripes_onward : (s : List ℕ) (at : ℕ) (l more tail : List ℕ) → drop at s ≡ (l ++ more) ++ tail → at ≤ length s → Onward s at l (more ++ tail)
stripes_onward s at l more tail e h =
    let e' : drop at s ≡ l ++ (more ++ tail) = e ∙ append_assoc l more tail in
    let n : length s - at ≡ length l + length (more ++ tail) = sym (length-drop at s) ∙ ap length e' ∙ length-append l (more ++ tail) in
    record { here = e'; further = drop_next s l (more ++ tail) at e'; within = omega arith }

module _ (Stripe : ℕ → ℕ → ℕ → List ℕ → ℕ → List Record → Type 0) (P : List ℕ → Record → Type 0)
    (each : (k left at : ℕ) (l : List ℕ) (height : ℕ) (rs : List Record) → Stripe k left at l height rs → (s tail : List ℕ) → drop at s ≡ l ++ tail → at + length l ≤ length s
    → (r : Record) → Among r rs → P s r) where
  pub stripes_each : {k left at : ℕ} {l : List ℕ} {rs : List Record} → Stripes Stripe k left at l rs → (s tail : List ℕ) → drop at s ≡ l ++ tail → at ≤ length s
      → (r : Record) → Among r rs → P s r
  stripes_each (last some) s tail e h r m = absurd (Memᴰ.not-nil m)
  stripes_each {k} {left} {at} (next {l = l} {more = more} {rs = rs} height few z rest) s tail e h r m =
      let o = stripes_onward s at l more tail e h in
      ⊎_elim (λ m1. each k left at l height rs z s (more ++ tail) o.here o.within r m1) (λ m2. stripes_each rest s tail o.further o.within r m2) (Memᴰ.append_cases rs m)
