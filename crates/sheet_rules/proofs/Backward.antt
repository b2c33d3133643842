-- A record that, with those before it, breaks no sentence is one that the judge keeps; and records unbroken are so up to any of them.
-- Assumes nothing.
use Prim.Native.Nat.{ℕ, ◌+◌, ◌-◌, ◌%◌, ◌≤◌, ◌<◌, ◌∣◌}
use native.Mathlib.Nat.{eq-zero-or-pos}
use native.Mathlib.Omega.{arith}
use mathlib.Core.Path.{◌≡◌, sym, ap, subst, subst₂, ◌∙◌}
use mathlib.Core.Logic.{◌⊎◌, inl, inr, ◌≢◌, ⊎_elim, ⊎_map}
use mathlib.Core.Bool.{Bool, cond}
use mathlib.Core.List.Memᴰ
use mathlib.Core.List.{List, [], ◌∷◌, ◌++◌}
use lib.ListN.{length, length-append, get_or-append}
use borrow.Author.Tests.{eq-eqb}
use Rattle.sheet_rules.specs.declared.Record.{Record}
use Rattle.sheet_rules.specs.declared.State.{State}
use Rattle.sheet_rules.specs.Record.{blank, nth, height_in}
use Rattle.sheet_rules.specs.Sentences.{Among, Coded, Uncoded, Grey, Above, Opening, Listed, Unbroken}
use Rattle.laws.proofs.Says.{says_eq, says_else}
use Rattle.sheet_rules.proofs.Among.{heights_append, length_more, nth_old, nth_new, heights_more, among_new, among_old}
use Rattle.sheet_rules.proofs.New.{NextLayer, NextStripe, CodedFacts, EmptyFacts, UncodedFacts, BaseFacts, ResFacts, PageFacts, UpperFacts, GreyFacts, New, says_coded}
use Rattle.sheet_rules.proofs.Agrees.{Agrees}

pub listed_nonzero : (n : ℕ) → Listed n → n ≢ 0
listed_nonzero n (inl e) z = omega arith
listed_nonzero n (inr (inl e)) z = omega arith
listed_nonzero n (inr (inr (inl e))) z = omega arith
listed_nonzero n (inr (inr (inr (inl e)))) z = omega arith
listed_nonzero n (inr (inr (inr (inr (inl e))))) z = omega arith
listed_nonzero n (inr (inr (inr (inr (inr e))))) z = omega arith

-- a record is coded or it is not
coded_else : (r : Record) → Coded r ⊎ Uncoded r
coded_else r = ⊎_elim (λ (e : r.len ≡ 0). inr e) (λ (d : r.len ≢ 0). inl d) (says_else (says_eq r.len 0))

module _ (rs : List Record) (st : State) (r : Record) (w : Unbroken (rs ++ (r ∷ []))) (g : Agrees rs st) where
  new : Among r (rs ++ (r ∷ []))
  new = among_new rs r

  place : NextLayer st r ⊎ NextStripe st r
  place =
      let l = length_more rs r in
      let f = w.few r new in
      ⊎_elim
      (λ (z : length rs ≡ 0).
      let s = g.none z in
      let k = subst (λ (x : Record). (x.stripe ≡ 0) × (x.layer ≡ 1)) (nth_new rs r 0 (sym z)) (w.first (omega arith)) in
      inl ((omega arith, omega arith), f.1))
      (λ (p : 0 < length rs).
      let i : ℕ = length rs - 1 in
      let t = g.last i (omega arith) in
      ⊎_map (λ (k : Above (nth rs i) r). ((omega arith, omega arith), f.1))
      (λ (k : Opening (nth rs i) r). (((omega arith, f.0), k.1), (omega arith, omega arith)))
      (subst₂ (λ (x y : Record). Above x y ⊎ Opening x y) (nth_old rs r i (omega arith)) (nth_new rs r (i + 1) (omega arith)) (w.next i (omega arith))))
      (eq-zero-or-pos (length rs))

  upward : 2 ≤ r.layer → NextLayer st r
  upward h = ⊎_elim (λ (k : NextLayer st r). k) (λ (k : NextStripe st r). absurd (omega arith)) place

  contents : (Coded r × CodedFacts r) ⊎ (Uncoded r × UncodedFacts r)
  contents =
      ⊎_map
      (λ (c : Coded r). let s = w.size r new c in (c, record { coder = w.coder r new c; width = s.0; height = s.1; ending = w.ending r new c }))
      (λ (e : Uncoded r). let s = w.uncoded r new e in (e, record { coder = s.0; start = s.1; empty = empty e }))
      (coded_else r)
    where
      empty : Uncoded r → (r.layer ≡ 2) ⊎ EmptyFacts r
      empty e =
          ⊎_map (λ (l : r.layer ≡ 2). l)
          (λ (d : r.layer ≢ 2). let s = w.empty r new e d in record { x = s.0; y = s.1; width = s.2; height = s.3 })
          (says_else (says_eq r.layer 2))

  grey : (r.octet17 ≡ 0) ⊎ GreyFacts r
  grey = ⊎_map (λ (z : r.octet17 ≡ 0). z) (λ (k : Grey r). ((k.0, k.2), k.3)) (w.grey r new)

  base : (r.layer % 2 ≡ 1) ⊎ BaseFacts r
  base =
      ⊎_map (λ (e : r.layer % 2 ≡ 1). e) (λ (d : r.layer % 2 ≢ 1). let s = w.base r new (omega arith) in ((s.0, s.1), s.2))
      (says_else (says_eq (r.layer % 2) 1))

  page_res : r.layer ≡ 2 → ResFacts st.coded1 st.res1 r.res
  page_res e =
      let up = upward (omega arith) in
      let o = g.one (omega arith) in
      let m = among_old rs r o.it o.among in
      let s : o.it.stripe ≡ r.stripe = omega (arith, o.stripe) in
      record {
        nonzero = subst (λ (a : ℕ). a ≢ 0) o.res1 (listed_nonzero o.it.res (w.listed o.it m));
        divides = subst (λ (a : ℕ). a ∣ r.res) o.res1 (w.divides o.it r m new (s, e));
        same =
            ⊎_map (λ (c : Coded o.it). sym o.coded1 ∙ (says_coded o.it).shown c)
            (λ (z : Uncoded o.it). sym o.res1 ∙ w.plain o.it r m new (s, e) z)
            (coded_else o.it);
      }

  page_facts : r.layer ≡ 2 → PageFacts st r
  page_facts e =
      let c = w.corner r new e in
      let d = w.wide r new e in
      record {
        x = c.0;
        y = c.1;
        narrow = d.0;
        wide = d.1;
        low = w.high r new e;
        high =
            let z : height_in r ≡ r.height = ap (λ (t : Bool). cond t r.height 0) (eq-eqb r.layer 2 e) in
            let h = heights_more rs r in
            let l = g.left in
            let t = w.tall in
            omega arith;
        same =
            ⊎_map (λ (z : r.stripe ≡ 0). z)
            (λ (k : r.stripe ≢ 0).
            let up = upward (omega arith) in
            let q = g.page (omega arith) in
            let s = w.same r q.0 new (among_old rs r q.0 q.1) e q.2 in
            let t = g.twos q.0 q.1 q.2 in
            (s.0 ∙ t.1, s.1 ∙ t.0))
            (says_else (says_eq r.stripe 0));
        res = page_res e;
      }

  upper_facts : 3 ≤ r.layer → UpperFacts st r
  upper_facts h =
      let up = upward (omega arith) in
      let o = g.one (omega arith) in
      let t = g.two (omega arith) in
      let mo = among_old rs r o.it o.among in
      let mt = among_old rs r t.it t.among in
      let st : r.stripe ≡ t.it.stripe = omega (arith, t.stripe) in
      let so : o.it.stripe ≡ t.it.stripe = omega (arith, t.stripe, o.stripe) in
      record {
        res =
            record {
              nonzero = listed_nonzero r.res (w.listed r new);
              divides = subst (λ (a : ℕ). r.res ∣ a) t.main (w.divides r t.it new mt (st, t.layer));
              same =
                  ⊎_map (λ (c : Coded r). (says_coded r).shown c)
                  (λ (z : Uncoded r). w.plain r t.it new mt (st, t.layer) z ∙ t.main)
                  (coded_else r);
            };
        choice =
            ⊎_elim
            (λ (e : r.layer ≡ 3).
            inr
            (record {
              some =
                  ⊎_map (λ (c : Coded o.it). sym o.coded1 ∙ (says_coded o.it).shown c)
                  (⊎_map (λ (c : Coded t.it). sym t.coded2 ∙ (says_coded t.it).shown c) (λ (c : Coded r). (says_coded r).shown c))
                  (w.some o.it t.it r mo mt new o.layer (so, t.layer) e (st, t.layer));
              mask =
                  ⊎_map (λ (c : Coded t.it). sym t.coded2 ∙ (says_coded t.it).shown c)
                  (λ (z : Uncoded t.it) k.
                  w.mask o.it t.it r mo mt new o.layer (so, t.layer) e (st, t.layer)
                  ((says_coded o.it).told (o.coded1 ∙ k.0))
                  ((says_coded r).told k.1)
                  z)
                  (coded_else t.it);
            }))
            (λ (d : r.layer ≢ 3). inl d)
            (says_else (says_eq r.layer 3));
      }

  above_none : 1 ≤ r.layer
  above_none = ⊎_elim (λ (k : NextLayer st r). omega arith) (λ (k : NextStripe st r). omega arith) place

  layer : (r.layer ≡ 1) ⊎ ((r.layer ≡ 2) × PageFacts st r) ⊎ ((3 ≤ r.layer) × UpperFacts st r)
  layer =
      let a = above_none in
      ⊎_map (λ (e : r.layer ≡ 1). e)
      (λ (d : r.layer ≢ 1).
      ⊎_map (λ (e : r.layer ≡ 2). (e, page_facts e))
      (λ (k : r.layer ≢ 2). let h : 3 ≤ r.layer = omega arith in (h, upper_facts h))
      (says_else (says_eq r.layer 2)))
      (says_else (says_eq r.layer 1))

  pub unbroken_new : New st r
  unbroken_new =
      record { zeros = w.zeros r new; grey = grey; place = place; contents = contents; listed = w.listed r new; base = base; layer = layer }

-- ---- records unbroken are unbroken up to any of them

module _ (ps qs : List Record) (w : Unbroken (ps ++ qs)) where
  in_front : (x : Record) → Among x ps → Among x (ps ++ qs)
  in_front x m = Memᴰ.append_left qs m

  nth_front : (i : ℕ) → i < length ps → nth (ps ++ qs) i ≡ nth ps i
  nth_front i h = get_or-append ps qs blank i h

  pub unbroken_front : Unbroken ps
  unbroken_front =
      let l = length-append ps qs in
      let h = heights_append ps qs in
      record {
        zeros = λ r m. w.zeros r (in_front r m);
        grey = λ r m. w.grey r (in_front r m);
        first = λ h. subst (λ (x : Record). (x.stripe ≡ 0) × (x.layer ≡ 1)) (nth_front 0 h) (w.first (omega arith));
        next = λ i h.
            subst₂ (λ (x y : Record). Above x y ⊎ Opening x y) (nth_front i (omega arith)) (nth_front (i + 1) h) (w.next i (omega arith));
        few = λ r m. w.few r (in_front r m);
        coder = λ r m. w.coder r (in_front r m);
        size = λ r m. w.size r (in_front r m);
        ending = λ r m. w.ending r (in_front r m);
        uncoded = λ r m. w.uncoded r (in_front r m);
        empty = λ r m. w.empty r (in_front r m);
        plain = λ r q m k. w.plain r q (in_front r m) (in_front q k);
        corner = λ r m. w.corner r (in_front r m);
        wide = λ r m. w.wide r (in_front r m);
        high = λ r m. w.high r (in_front r m);
        tall = let t = w.tall in omega arith;
        same = λ r q m k. w.same r q (in_front r m) (in_front q k);
        listed = λ r m. w.listed r (in_front r m);
        divides = λ r q m k. w.divides r q (in_front r m) (in_front q k);
        base = λ r m. w.base r (in_front r m);
        some = λ a b c i j k. w.some a b c (in_front a i) (in_front b j) (in_front c k);
        mask = λ a b c i j k. w.mask a b c (in_front a i) (in_front b j) (in_front c k);
      }
