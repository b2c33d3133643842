-- The stripe table of a sheet: the sums that define an extent find the stripe's records.
-- Assumes nothing.
use Prim.Native.Nat.{ℕ, zero, suc, ◌+◌, ◌-◌, ◌%◌, ◌≤◌, ◌<◌}
use native.Mathlib.Omega.{arith}
use mathlib.Core.Path.{◌≡◌, refl, sym, ap, subst, subst₂, ◌∙◌}
use mathlib.Core.Logic.{◌≢◌, ⊎_elim}
use mathlib.Core.Bool.{Bool, true, false}
use mathlib.Core.List.Memᴰ
use mathlib.Core.List.{List, [], ◌∷◌, ◌++◌}
use lib.ListN.{length}
use lib.Dec.{eqb, ltb}
use borrow.Author.Tests.{eq-eqb, ne_eqb, lt-ltb, le-ltb}
use Rattle.sheet_rules.specs.declared.Record.{Record}
use Rattle.sheet_rules.specs.declared.State.{State}
use Rattle.sheet_rules.specs.Record.{nth, sum_of, height_in}
use Rattle.laws.specs.Tests.{only}
use Rattle.sheet_rules.specs.Judge.{begin, after}
use Rattle.sheet_rules.specs.Sentences.{Among}
use Rattle.sheet_rules.specs.StripeTable.{extent_of}
use Rattle.laws.proofs.Says.{says_eq, says_lt, says_else}
use Rattle.sheet_rules.proofs.Among.{length_more, nth_old, nth_new, nth_among, sum_more, all_more}
use Rattle.sheet_rules.proofs.New.{NextLayer, NextStripe, New}
use Rattle.sheet_rules.proofs.Agrees.{Agrees, fresh, stands, after_stripe, after_layer}

-- ---- sums of any records

only_true : (b : Bool) (n : ℕ) → b ≡ true → only b n ≡ n
only_true b n e = ap (λ (t : Bool). only t n) e

only_false : (b : Bool) (n : ℕ) → b ≡ false → only b n ≡ 0
only_false b n e = ap (λ (t : Bool). only t n) e

-- a stripe up to k is one before k or k itself
split_at : (s k n : ℕ) → only (ltb s (k + 1)) n ≡ only (ltb s k) n + only (eqb s k) n
split_at s k n =
    ⊎_elim
    (λ (h : s < k).
    let a = only_true (ltb s (k + 1)) n (lt-ltb s (k + 1) (omega arith)) in
    let b = only_true (ltb s k) n (lt-ltb s k h) in
    let c = only_false (eqb s k) n (ne_eqb s k (λ z. omega arith)) in
    omega arith)
    (λ (h : s < k → ⊥).
    let b = only_false (ltb s k) n (le-ltb s k (omega arith)) in
    ⊎_elim
    (λ (e : s ≡ k).
    let a = only_true (ltb s (k + 1)) n (lt-ltb s (k + 1) (omega arith)) in
    let c = only_true (eqb s k) n (eq-eqb s k e) in
    omega arith)
    (λ (d : s ≢ k).
    let a = only_false (ltb s (k + 1)) n (le-ltb s (k + 1) (omega arith)) in
    let c = only_false (eqb s k) n (ne_eqb s k d) in
    omega arith)
    (says_else (says_eq s k)))
    (says_else (says_lt s k))

-- sums of two numbers a record
sum_both : (f g h : Record → ℕ) → ((r : Record) → f r ≡ g r + h r) → (rs : List Record) → sum_of f rs ≡ sum_of g rs + sum_of h rs
unfolding sum_of
sum_both f g h e [] = omega arith
sum_both f g h e (r ∷ rs) = let a = e r in let b = sum_both f g h e rs in omega arith

sum_none : (f : Record → ℕ) (rs : List Record) → ((r : Record) → Among r rs → f r ≡ 0) → sum_of f rs ≡ 0
unfolding sum_of
sum_none f [] e = refl
sum_none f (r ∷ rs) e =
    let a = e r (Memᴰ.head refl) in let b = sum_none f rs (λ x m. e x (Memᴰ.tail m)) in omega arith

module _ (k : ℕ) (rs : List Record) where
  pub first_next : (extent_of (k + 1) rs).first ≡ (extent_of k rs).first + (extent_of k rs).layers
  unfolding extent_of
  first_next =
      sum_both (λ r. only (ltb r.stripe (k + 1)) 1) (λ r. only (ltb r.stripe k) 1) (λ r. only (eqb r.stripe k) 1)
      (λ r. split_at r.stripe k 1) rs

  pub top_next : (extent_of (k + 1) rs).top ≡ (extent_of k rs).top + (extent_of k rs).height
  unfolding extent_of
  top_next =
      sum_both (λ r. only (ltb r.stripe (k + 1)) (height_in r)) (λ r. only (ltb r.stripe k) (height_in r))
      (λ r. only (eqb r.stripe k) (height_in r))
      (λ r. split_at r.stripe k (height_in r)) rs

-- what never falls from a number to the next never falls
mono_by : (f : ℕ → ℕ) → ((i : ℕ) → f i ≤ f (i + 1)) → (j d : ℕ) → f j ≤ f (j + d)
mono_by f up j zero = let e : j ≡ j + 0 = omega arith in subst (λ (i : ℕ). f j ≤ f i) e (omega arith)
mono_by f up j (suc d) =
    let a = mono_by f up j d in
    let b = up (j + d) in
    let e : j + d + 1 ≡ j + suc d = omega arith in
    subst (λ (i : ℕ). f j ≤ f i) e (omega arith)

mono : (f : ℕ → ℕ) → ((i : ℕ) → f i ≤ f (i + 1)) → (j k : ℕ) → j ≤ k → f j ≤ f k
mono f up j k h = let e : j + (k - j) ≡ k = omega arith in subst (λ (i : ℕ). f j ≤ f i) e (mono_by f up j (k - j))

module _ (rs : List Record) where
  pub first_none : (extent_of 0 rs).first ≡ 0
  unfolding extent_of
  first_none = sum_none (λ r. only (ltb r.stripe 0) 1) rs (λ r m. only_false (ltb r.stripe 0) 1 (le-ltb r.stripe 0 (omega arith)))

  pub top_none : (extent_of 0 rs).top ≡ 0
  unfolding extent_of
  top_none =
      sum_none (λ r. only (ltb r.stripe 0) (height_in r)) rs
      (λ r m. only_false (ltb r.stripe 0) (height_in r) (le-ltb r.stripe 0 (omega arith)))

  pub first_mono : (j k : ℕ) → j ≤ k → (extent_of j rs).first ≤ (extent_of k rs).first
  first_mono j k h = mono (λ i. (extent_of i rs).first) (λ i. let e = first_next i rs in omega arith) j k h

  pub top_mono : (j k : ℕ) → j ≤ k → (extent_of j rs).top ≤ (extent_of k rs).top
  top_mono j k h = mono (λ i. (extent_of i rs).top) (λ i. let e = top_next i rs in omega arith) j k h

-- ---- rows as records are passed

-- a number of layers that a stripe may have
abbrev pub LayerCount : ℕ → Type 0
LayerCount n = (n % 2 ≡ 1) × (3 ≤ n) × (n ≤ 15)

pub record Extents (rs : List Record) (s l : ℕ) : Type 0 where
  pub all : (extent_of (s + 1) rs).first ≡ length rs
  pub own : (extent_of s rs).layers ≡ l
  pub beyond : (k : ℕ) → s < k → (extent_of k rs).layers ≡ 0
  pub closed : (k : ℕ) → k < s → LayerCount (extent_of k rs).layers
  pub index : (i : ℕ) → i < length rs → i + 1 ≡ (extent_of (nth rs i).stripe rs).first + (nth rs i).layer
  pub within : (x : Record) → Among x rs → x.layer ≤ (extent_of x.stripe rs).layers
  pub high : (x : Record) → Among x rs → x.layer ≡ 2 → (extent_of x.stripe rs).height ≡ x.height

pub extents_begin : Extents [] begin.stripe begin.layer
unfolding extent_of
extents_begin =
    record {
      all = refl;
      own = refl;
      beyond = λ k h. refl;
      closed = λ k h. absurd (omega arith);
      index = λ i h. absurd (omega arith);
      within = λ x m. absurd (Memᴰ.not-nil m);
      high = λ x m. absurd (Memᴰ.not-nil m);
    }

module _ (rs : List Record) (st : State) (r : Record) (g : Agrees rs st) (n : New st r) (p : Extents rs st.stripe st.layer) where
  first_more : (k : ℕ) → (extent_of k (rs ++ (r ∷ []))).first ≡ (extent_of k rs).first + only (ltb r.stripe k) 1
  unfolding extent_of
  first_more k = sum_more rs r (λ x. only (ltb x.stripe k) 1)

  layers_more : (k : ℕ) → (extent_of k (rs ++ (r ∷ []))).layers ≡ (extent_of k rs).layers + only (eqb r.stripe k) 1
  unfolding extent_of
  layers_more k = sum_more rs r (λ x. only (eqb x.stripe k) 1)

  height_more : (k : ℕ) → (extent_of k (rs ++ (r ∷ []))).height ≡ (extent_of k rs).height + only (eqb r.stripe k) (height_in r)
  unfolding extent_of
  height_more k = sum_more rs r (λ x. only (eqb x.stripe k) (height_in x))

  -- the new record's own stripe before it
  layers_before : (extent_of r.stripe rs).layers + 1 ≡ r.layer
  layers_before =
      ⊎_elim
      (λ (k : NextLayer st r). let o = p.own in let e = ap (λ (j : ℕ). (extent_of j rs).layers) k.0.0 in omega arith)
      (λ (k : NextStripe st r). let o = p.beyond r.stripe (omega arith) in omega arith)
      n.place

  all_before : (extent_of (r.stripe + 1) rs).first ≡ length rs
  all_before =
      ⊎_elim
      (λ (k : NextLayer st r). ap (λ (j : ℕ). (extent_of (j + 1) rs).first) k.0.0 ∙ p.all)
      (λ (k : NextStripe st r).
      let o = p.beyond r.stripe (omega arith) in
      let a = ap (λ (j : ℕ). (extent_of j rs).first) k.0.0.0 ∙ p.all in
      let e = first_next r.stripe rs in
      omega arith)
      n.place

  closed_before : (k : ℕ) → k < r.stripe → LayerCount (extent_of k rs).layers
  closed_before k h =
      ⊎_elim
      (λ (d : NextLayer st r). p.closed k (omega arith))
      (λ (d : NextStripe st r).
      ⊎_elim
      (λ (e : k ≡ st.stripe).
      let o = ap (λ (j : ℕ). (extent_of j rs).layers) e ∙ p.own in
      let b = g.bound in
      (omega arith, omega arith, omega arith))
      (λ (e : k ≢ st.stripe). p.closed k (omega arith))
      (says_else (says_eq k st.stripe)))
      n.place

  -- no layer 2 of the new record's stripe, where that is layer 2
  height_before : r.layer ≡ 2 → (extent_of r.stripe rs).height ≡ 0
  unfolding extent_of
  height_before e =
      sum_none (λ x. only (eqb x.stripe r.stripe) (height_in x)) rs
      (λ x m.
      let f = fresh rs st r g n x m in
      ⊎_elim
      (λ (s : x.stripe ≡ r.stripe).
      only_true (eqb x.stripe r.stripe) (height_in x) (eq-eqb x.stripe r.stripe s)
      ∙ only_false (eqb x.layer 2) x.height (ne_eqb x.layer 2 (λ z. omega arith)))
      (λ (d : x.stripe ≢ r.stripe). only_false (eqb x.stripe r.stripe) (height_in x) (ne_eqb x.stripe r.stripe d))
      (says_else (says_eq x.stripe r.stripe)))

  index_new : length rs + 1 ≡ (extent_of r.stripe (rs ++ (r ∷ []))).first + r.layer
  index_new =
      let a = all_before in
      let b = layers_before in
      let c = first_next r.stripe rs in
      let d = first_more r.stripe in
      let e = only_false (ltb r.stripe r.stripe) 1 (le-ltb r.stripe r.stripe (omega arith)) in
      omega arith

  -- an earlier record's stripe has its first record where it had it
  index_old : (x : Record) → Among x rs → (extent_of x.stripe (rs ++ (r ∷ []))).first ≡ (extent_of x.stripe rs).first
  index_old x m =
      let f = fresh rs st r g n x m in
      let s = stands rs st r g n in
      let d = first_more x.stripe in
      let e = only_false (ltb r.stripe x.stripe) 1 (le-ltb r.stripe x.stripe (omega arith)) in
      omega arith

  high_new : r.layer ≡ 2 → (extent_of r.stripe (rs ++ (r ∷ []))).height ≡ r.height
  high_new e =
      let a = height_more r.stripe in
      let b = height_before e in
      let c = only_true (eqb r.stripe r.stripe) (height_in r) (eq-eqb r.stripe r.stripe refl) in
      let d = only_true (eqb r.layer 2) r.height (eq-eqb r.layer 2 e) in
      omega arith

  high_old : (x : Record) → Among x rs → x.layer ≡ 2 → (extent_of x.stripe (rs ++ (r ∷ []))).height ≡ x.height
  high_old x m l =
      let f = fresh rs st r g n x m in
      let a = height_more x.stripe in
      let h = p.high x m l in
      ⊎_elim
      (λ (s : r.stripe ≡ x.stripe).
      let c = only_true (eqb r.stripe x.stripe) (height_in r) (eq-eqb r.stripe x.stripe s) in
      let d = only_false (eqb r.layer 2) r.height (ne_eqb r.layer 2 (λ z. omega arith)) in
      omega arith)
      (λ (s : r.stripe ≢ x.stripe).
      let c = only_false (eqb r.stripe x.stripe) (height_in r) (ne_eqb r.stripe x.stripe s) in
      omega arith)
      (says_else (says_eq r.stripe x.stripe))

  extents_next : Extents (rs ++ (r ∷ [])) r.stripe r.layer
  extents_next =
      let len = length_more rs r in
      record {
        all =
            let a = all_before in
            let b = first_more (r.stripe + 1) in
            let c = only_true (ltb r.stripe (r.stripe + 1)) 1 (lt-ltb r.stripe (r.stripe + 1) (omega arith)) in
            omega arith;
        own =
            let a = layers_before in
            let b = layers_more r.stripe in
            let c = only_true (eqb r.stripe r.stripe) 1 (eq-eqb r.stripe r.stripe refl) in
            omega arith;
        beyond = λ k h.
            let a = layers_more k in
            let c = only_false (eqb r.stripe k) 1 (ne_eqb r.stripe k (λ z. omega arith)) in
            let b : (extent_of k rs).layers ≡ 0 =
            ⊎_elim (λ (d : NextLayer st r). p.beyond k (omega arith)) (λ (d : NextStripe st r). p.beyond k (omega arith)) n.place in
            omega arith;
        closed = λ k h.
            let a = layers_more k in
            let c = only_false (eqb r.stripe k) 1 (ne_eqb r.stripe k (λ z. omega arith)) in
            let b = closed_before k h in
            (omega arith, omega arith, omega arith);
        index = λ i h.
            ⊎_elim
            (λ (z : i ≡ length rs).
            subst (λ (x : Record). i + 1 ≡ (extent_of x.stripe (rs ++ (r ∷ []))).first + x.layer) (sym (nth_new rs r i z))
            (let e = index_new in omega arith))
            (λ (d : i ≢ length rs).
            let l : i < length rs = omega arith in
            subst (λ (x : Record). i + 1 ≡ (extent_of x.stripe (rs ++ (r ∷ []))).first + x.layer) (sym (nth_old rs r i l))
            (let e = index_old (nth rs i) (nth_among rs i l) in let q = p.index i l in omega arith))
            (says_else (says_eq i (length rs)));
        within =
            all_more rs r (λ x. x.layer ≤ (extent_of x.stripe (rs ++ (r ∷ []))).layers)
            (λ x m. let a = layers_more x.stripe in let b = p.within x m in omega arith)
            (let a = layers_before in
            let b = layers_more r.stripe in
            let c = only_true (eqb r.stripe r.stripe) 1 (eq-eqb r.stripe r.stripe refl) in
            omega arith);
        high =
            all_more rs r (λ x. x.layer ≡ 2 → (extent_of x.stripe (rs ++ (r ∷ []))).height ≡ x.height) high_old high_new;
      }

  pub extents_more : Extents (rs ++ (r ∷ [])) (after st r).stripe (after st r).layer
  extents_more = subst₂ (λ (s l : ℕ). Extents (rs ++ (r ∷ [])) s l) (sym (after_stripe st r)) (sym (after_layer st r)) extents_next
