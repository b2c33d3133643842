-- The judge's state agrees with the records passed, and goes on agreeing with each record that is kept.
-- Assumes nothing.
use Prim.Native.Nat.{ℕ, ◌+◌, ◌*◌, ◌≤◌, ◌<◌}
use native.Mathlib.Omega.{arith}
use mathlib.Core.Path.{◌≡◌, refl, sym, ap, ◌∙◌}
use mathlib.Core.Logic.{⊎_elim}
use mathlib.Core.Bool.{Bool, true, false, cond}
use mathlib.Core.List.Memᴰ
use mathlib.Core.List.{List, [], ◌∷◌, ◌++◌}
use lib.ListN.{length}
use lib.Dec.{eqb}
use borrow.Author.Tests.{eq-eqb, ne_eqb}
use Rattle.sheet_rules.specs.declared.Record.{Record}
use Rattle.sheet_rules.specs.declared.State.{State}
use Rattle.sheet_rules.specs.Record.{nth, height_in}
use Rattle.sheet_rules.specs.Judge.{coded, begin, after, after1, after2, after3}
use Rattle.sheet_rules.specs.Sentences.{Among, heights}
use Rattle.sheet_rules.proofs.Among.{length_more, nth_new, heights_more, among_new, among_old, all_more}
use Rattle.sheet_rules.proofs.New.{NextLayer, NextStripe, PageFacts, UpperFacts, New}

-- layer 1 of the stripe that the state is in, and layer 2
pub record One (rs : List Record) (st : State) : Type 0 where
  pub it : Record
  pub among : Among it rs
  pub stripe : it.stripe ≡ st.stripe
  pub layer : it.layer ≡ 1
  pub coded1 : coded it ≡ st.coded1
  pub res1 : it.res ≡ st.res1

pub record Two (rs : List Record) (st : State) : Type 0 where
  pub it : Record
  pub among : Among it rs
  pub stripe : it.stripe ≡ st.stripe
  pub layer : it.layer ≡ 2
  pub coded2 : coded it ≡ st.coded2
  pub main : it.res ≡ st.main
  pub width : it.width ≡ st.width

pub record Agrees (rs : List Record) (st : State) : Type 0 where
  pub none : length rs ≡ 0 → (st.stripe ≡ 0) × (st.layer ≡ 0)
  pub last : (i : ℕ) → i + 1 ≡ length rs → ((nth rs i).stripe ≡ st.stripe) × ((nth rs i).layer ≡ st.layer)
  pub bound : (st.stripe < 64) × (st.layer ≤ 15)
  pub count : length rs ≤ st.stripe * 15 + st.layer
  pub passed : (x : Record) → Among x rs → (1 ≤ x.layer) × (x.stripe * 16 + x.layer ≤ st.stripe * 16 + st.layer)
  pub one : 1 ≤ st.layer → One rs st
  pub ones : (x : Record) → Among x rs → x.stripe ≡ st.stripe → x.layer ≡ 1 → (coded x ≡ st.coded1) × (x.res ≡ st.res1)
  pub two : 2 ≤ st.layer → Two rs st
  pub twos : (x : Record) → Among x rs → x.layer ≡ 2
      → (x.res ≡ st.main) × (x.width ≡ st.width) × (x.stripe ≡ st.stripe → coded x ≡ st.coded2)
  pub page : 1 ≤ st.stripe → (q : Record) × Among q rs × (q.layer ≡ 2)
  pub left : heights rs + st.left ≡ 65535

pub agrees_begin : Agrees [] begin
unfolding heights
agrees_begin =
    record {
      none = λ e. (refl, refl);
      last = λ i e. (omega arith, omega arith);
      bound = (omega arith, omega arith);
      count = omega arith;
      passed = λ x m. absurd (Memᴰ.not-nil m);
      one = λ h. absurd (omega arith);
      ones = λ x m. absurd (Memᴰ.not-nil m);
      two = λ h. absurd (omega arith);
      twos = λ x m. absurd (Memᴰ.not-nil m);
      page = λ h. absurd (omega arith);
      left = omega arith;
    }

-- ---- where the new record stands

module _ (rs : List Record) (st : State) (r : Record) (g : Agrees rs st) (n : New st r) where
  -- each record passed stands before the new one
  pub fresh : (x : Record) → Among x rs → (1 ≤ x.layer) × (x.stripe * 16 + x.layer < r.stripe * 16 + r.layer)
  fresh x m =
      let p = g.passed x m in
      let b = g.bound in
      ⊎_elim (λ (k : NextLayer st r). (p.0, omega arith)) (λ (k : NextStripe st r). (p.0, omega arith)) n.place

  -- a record above layer 1 is in the state's stripe, one layer up
  pub upward : 2 ≤ r.layer → NextLayer st r
  upward h = ⊎_elim (λ (k : NextLayer st r). k) (λ (k : NextStripe st r). absurd (omega arith)) n.place

  pub stands : (r.stripe < 64) × (1 ≤ r.layer) × (r.layer ≤ 15)
  stands =
      let b = g.bound in
      ⊎_elim
      (λ (k : NextLayer st r). (omega arith, omega arith, omega arith))
      (λ (k : NextStripe st r). (omega arith, omega arith, omega arith))
      n.place

  counted : length (rs ++ (r ∷ [])) ≤ r.stripe * 15 + r.layer
  counted =
      let b = g.bound in
      let c = g.count in
      let e = length_more rs r in
      ⊎_elim (λ (k : NextLayer st r). omega arith) (λ (k : NextStripe st r). omega arith) n.place

  none' : {A : Type 0} → length (rs ++ (r ∷ [])) ≡ 0 → A
  none' e = let l = length_more rs r in absurd (omega arith)

  last' : (i : ℕ) → i + 1 ≡ length (rs ++ (r ∷ [])) → ((nth (rs ++ (r ∷ [])) i).stripe ≡ r.stripe) × ((nth (rs ++ (r ∷ [])) i).layer ≡ r.layer)
  last' i e =
      let l = length_more rs r in
      let z : i ≡ length rs = omega arith in
      let p = nth_new rs r i z in
      (ap (λ (x : Record). x.stripe) p, ap (λ (x : Record). x.layer) p)

  passed' : (x : Record) → Among x (rs ++ (r ∷ [])) → (1 ≤ x.layer) × (x.stripe * 16 + x.layer ≤ r.stripe * 16 + r.layer)
  passed' =
      all_more rs r (λ x. (1 ≤ x.layer) × (x.stripe * 16 + x.layer ≤ r.stripe * 16 + r.layer))
      (λ x m. let f = fresh x m in (f.0, omega arith))
      (let s = stands in (s.1, omega arith))

  -- ---- the state after each kind of layer

  agrees1 : r.layer ≡ 1 → Agrees (rs ++ (r ∷ [])) (after1 st r)
  unfolding after1
  agrees1 e =
      record {
        none = none';
        last = last';
        bound = (stands.0, stands.2);
        count = counted;
        passed = passed';
        one = λ h. record { it = r; among = among_new rs r; stripe = refl; layer = e; coded1 = refl; res1 = refl };
        ones =
            all_more rs r (λ x. x.stripe ≡ r.stripe → x.layer ≡ 1 → (coded x ≡ coded r) × (x.res ≡ r.res))
            (λ x m s l. let f = fresh x m in absurd (omega arith))
            (λ s l. (refl, refl));
        two = λ h. absurd (omega arith);
        twos =
            all_more rs r (λ x. x.layer ≡ 2 → (x.res ≡ st.main) × (x.width ≡ st.width) × (x.stripe ≡ r.stripe → coded x ≡ false))
            (λ x m l. let f = fresh x m in let t = g.twos x m l in (t.0, t.1, λ s. absurd (omega arith)))
            (λ l. absurd (omega arith));
        page = λ h.
            ⊎_elim
            (λ (k : NextLayer st r). let p = g.page (omega arith) in (p.0, among_old rs r p.0 p.1, p.2))
            (λ (k : NextStripe st r). let t = g.two (omega arith) in (t.it, among_old rs r t.it t.among, t.layer))
            n.place;
        left =
            let ne : eqb r.layer 2 ≡ false = ne_eqb r.layer 2 (λ z. omega arith) in
            let z : height_in r ≡ 0 = ap (λ (t : Bool). cond t r.height 0) ne in
            let h = heights_more rs r in
            let l = g.left in
            omega arith;
      }

  -- above layer 1 what is known of the stripe's layer 1 stays, in any state of the record's stripe that remembers it
  one_kept : (t : State) → t.stripe ≡ r.stripe → t.coded1 ≡ st.coded1 → t.res1 ≡ st.res1 → 2 ≤ r.layer → One (rs ++ (r ∷ [])) t
  one_kept t es ec er h =
      let u = upward h in
      let o = g.one (omega arith) in
      record {
        it = o.it;
        among = among_old rs r o.it o.among;
        stripe = o.stripe ∙ sym u.0.0 ∙ sym es;
        layer = o.layer;
        coded1 = o.coded1 ∙ sym ec;
        res1 = o.res1 ∙ sym er;
      }

  ones_kept : 2 ≤ r.layer → (x : Record) → Among x (rs ++ (r ∷ [])) → x.stripe ≡ r.stripe → x.layer ≡ 1 → (coded x ≡ st.coded1) × (x.res ≡ st.res1)
  ones_kept h =
      all_more rs r (λ x. x.stripe ≡ r.stripe → x.layer ≡ 1 → (coded x ≡ st.coded1) × (x.res ≡ st.res1))
      (λ x m s l. g.ones x m (s ∙ (upward h).0.0) l)
      (λ s l. absurd (omega arith))

  agrees2 : r.layer ≡ 2 → PageFacts st r → Agrees (rs ++ (r ∷ [])) (after2 st r)
  unfolding after2
  agrees2 e f =
      let u = upward (omega arith) in
      record {
        none = none';
        last = last';
        bound = (stands.0, stands.2);
        count = counted;
        passed = passed';
        one = λ h. one_kept (after2 st r) refl refl refl (omega arith);
        ones = ones_kept (omega arith);
        two = λ h. record { it = r; among = among_new rs r; stripe = refl; layer = e; coded2 = refl; main = refl; width = refl };
        twos =
            all_more rs r (λ x. x.layer ≡ 2 → (x.res ≡ r.res) × (x.width ≡ r.width) × (x.stripe ≡ r.stripe → coded x ≡ coded r))
            (λ x m l.
            let q = fresh x m in
            let t = g.twos x m l in
            ⊎_elim
            (λ (z : r.stripe ≡ 0). absurd (omega arith))
            (λ (z : (r.width ≡ st.width) × (r.res ≡ st.main)). (t.0 ∙ sym z.1, t.1 ∙ sym z.0, λ s. absurd (omega arith)))
            f.same)
            (λ l. (refl, refl, λ s. refl));
        page = λ h. (r, among_new rs r, e);
        left =
            let z : height_in r ≡ r.height = ap (λ (t : Bool). cond t r.height 0) (eq-eqb r.layer 2 e) in
            let h = heights_more rs r in
            let l = g.left in
            let b = f.high in
            omega arith;
      }

  agrees3 : 3 ≤ r.layer → Agrees (rs ++ (r ∷ [])) (after3 st r)
  unfolding after3
  agrees3 e =
      let u = upward (omega arith) in
      let ne : eqb r.layer 2 ≡ false = ne_eqb r.layer 2 (λ z. omega arith) in
      record {
        none = none';
        last = last';
        bound = (stands.0, stands.2);
        count = counted;
        passed = passed';
        one = λ h. one_kept (after3 st r) refl refl refl (omega arith);
        ones = ones_kept (omega arith);
        two = λ h.
            let o = g.two (omega arith) in
            record { it = o.it; among = among_old rs r o.it o.among; stripe = o.stripe ∙ sym u.0.0; layer = o.layer; coded2 = o.coded2; main = o.main; width = o.width };
        twos =
            all_more rs r (λ x. x.layer ≡ 2 → (x.res ≡ st.main) × (x.width ≡ st.width) × (x.stripe ≡ r.stripe → coded x ≡ st.coded2))
            (λ x m l. let t = g.twos x m l in (t.0, t.1, λ s. t.2 (s ∙ u.0.0)))
            (λ l. absurd (omega arith));
        page = λ h. let p = g.page (omega arith) in (p.0, among_old rs r p.0 p.1, p.2);
        left =
            let z : height_in r ≡ 0 = ap (λ (t : Bool). cond t r.height 0) ne in
            let h = heights_more rs r in
            let l = g.left in
            omega arith;
      }

  pub agrees_more : Agrees (rs ++ (r ∷ [])) (after st r)
  unfolding after
  agrees_more =
      ⊎_elim
      (λ (e : r.layer ≡ 1). rw (eq-eqb r.layer 1 e) (agrees1 e))
      (⊎_elim
      (λ (k : (r.layer ≡ 2) × PageFacts st r).
      rw (ne_eqb r.layer 1 (λ z. omega arith), eq-eqb r.layer 2 k.0) (agrees2 k.0 k.1))
      (λ (k : (3 ≤ r.layer) × UpperFacts st r).
      rw (ne_eqb r.layer 1 (λ z. omega arith), ne_eqb r.layer 2 (λ z. omega arith)) (agrees3 k.0)))
      n.layer

-- the state's place is the record's
module _ (st : State) (r : Record) where
  after_field : (f : State → ℕ) (n : ℕ) → f (after1 st r) ≡ n → f (after2 st r) ≡ n → f (after3 st r) ≡ n → f (after st r) ≡ n
  unfolding after
  after_field f n e1 e2 e3 = go (eqb r.layer 1) (eqb r.layer 2)
    where
      go : (a b : Bool) → f (cond a (after1 st r) (cond b (after2 st r) (after3 st r))) ≡ n
      go true b = e1
      go false true = e2
      go false false = e3

  pub after_stripe : (after st r).stripe ≡ r.stripe
  unfolding after1 after2 after3
  after_stripe = after_field (λ t. t.stripe) r.stripe refl refl refl

  pub after_layer : (after st r).layer ≡ r.layer
  unfolding after1 after2 after3
  after_layer = after_field (λ t. t.layer) r.layer refl refl refl
