-- A record that the judge keeps breaks no sentence: records unbroken so far stay so with it.
-- Assumes nothing.
use Prim.Native.Nat.{ℕ, ◌+◌, ◌%◌, ◌≤◌, ◌<◌, ◌∣◌}
use native.Mathlib.Nat.{eq-zero-or-pos, dvd_refl}
use native.Mathlib.Omega.{arith}
use mathlib.Core.Path.{◌≡◌, refl, sym, ap, subst, subst₂, ◌∙◌}
use mathlib.Core.Logic.{◌⊎◌, inl, inr, ◌≢◌, ⊎_elim, ⊎_map}
use mathlib.Core.Bool.{Bool, true, cond}
use mathlib.Core.List.Memᴰ
use mathlib.Core.List.{List, [], ◌∷◌, ◌++◌}
use lib.ListN.{length}
use borrow.Author.Tests.{eq-eqb, ne_eqb}
use Rattle.sheet_rules.specs.declared.Record.{Record}
use Rattle.sheet_rules.specs.declared.State.{State}
use Rattle.sheet_rules.specs.Record.{nth, height_in}
use Rattle.sheet_rules.specs.Judge.{coded}
use Rattle.sheet_rules.specs.Sentences.{Among, Coded, Uncoded, Grey, CoderOf, Above, Opening, Main, heights, Unbroken}
use Rattle.laws.proofs.Says.{says_eq, says_else}
use Rattle.sheet_rules.proofs.Among.{length_more, nth_old, nth_new, heights_more, all_more, pair_more}
use Rattle.sheet_rules.proofs.New.{NextLayer, NextStripe, CodedFacts, EmptyFacts, UncodedFacts, BaseFacts, PageFacts, ChoiceFacts, UpperFacts, GreyFacts, New, says_coded}
use Rattle.sheet_rules.proofs.Agrees.{Agrees, fresh, upward, stands}

pub unbroken_none : Unbroken []
unfolding heights
unbroken_none =
    record {
      zeros = λ r m. absurd (Memᴰ.not-nil m);
      grey = λ r m. absurd (Memᴰ.not-nil m);
      first = λ h. absurd (omega arith);
      next = λ i h. absurd (omega arith);
      few = λ r m. absurd (Memᴰ.not-nil m);
      coder = λ r m. absurd (Memᴰ.not-nil m);
      size = λ r m. absurd (Memᴰ.not-nil m);
      ending = λ r m. absurd (Memᴰ.not-nil m);
      uncoded = λ r m. absurd (Memᴰ.not-nil m);
      empty = λ r m. absurd (Memᴰ.not-nil m);
      plain = λ r q m. absurd (Memᴰ.not-nil m);
      corner = λ r m. absurd (Memᴰ.not-nil m);
      wide = λ r m. absurd (Memᴰ.not-nil m);
      high = λ r m. absurd (Memᴰ.not-nil m);
      tall = omega arith;
      same = λ r q m. absurd (Memᴰ.not-nil m);
      listed = λ r m. absurd (Memᴰ.not-nil m);
      divides = λ r q m. absurd (Memᴰ.not-nil m);
      base = λ r m. absurd (Memᴰ.not-nil m);
      some = λ a b c m. absurd (Memᴰ.not-nil m);
      mask = λ a b c m. absurd (Memᴰ.not-nil m);
    }

module _ (rs : List Record) (st : State) (r : Record) (u : Unbroken rs) (g : Agrees rs st) (n : New st r) where
  page_facts : r.layer ≡ 2 → PageFacts st r
  page_facts e =
      ⊎_elim (λ (k : r.layer ≡ 1). absurd (omega arith))
      (⊎_elim (λ (k : (r.layer ≡ 2) × PageFacts st r). k.1) (λ (k : (3 ≤ r.layer) × UpperFacts st r). absurd (omega arith)))
      n.layer

  upper_facts : 3 ≤ r.layer → UpperFacts st r
  upper_facts e =
      ⊎_elim (λ (k : r.layer ≡ 1). absurd (omega arith))
      (⊎_elim (λ (k : (r.layer ≡ 2) × PageFacts st r). absurd (omega arith)) (λ (k : (3 ≤ r.layer) × UpperFacts st r). k.1))
      n.layer

  coded_facts : Coded r → CodedFacts r
  coded_facts c =
      ⊎_elim (λ (k : Coded r × CodedFacts r). k.1) (λ (k : Uncoded r × UncodedFacts r). absurd (c k.0)) n.contents

  uncoded_facts : Uncoded r → UncodedFacts r
  uncoded_facts e =
      ⊎_elim (λ (k : Coded r × CodedFacts r). absurd (k.0 e)) (λ (k : Uncoded r × UncodedFacts r). k.1) n.contents

  empty_facts : Uncoded r → r.layer ≢ 2 → EmptyFacts r
  empty_facts e d = ⊎_elim (λ (k : r.layer ≡ 2). absurd (d k)) (λ (k : EmptyFacts r). k) (uncoded_facts e).empty

  base_facts : r.layer % 2 ≡ 0 → BaseFacts r
  base_facts e = ⊎_elim (λ (k : r.layer % 2 ≡ 1). absurd (omega arith)) (λ (k : BaseFacts r). k) n.base

  -- a layer of coder 1 is coded: the coder of one that is not is 0
  grey' : (r.octet17 ≡ 0) ⊎ Grey r
  grey' = ⊎_map (λ (z : r.octet17 ≡ 0). z) (λ (k : GreyFacts r). (k.0.0, coder_coded k.1, k.0.1, k.1)) n.grey
    where
      coder_coded : r.coder ≡ 1 → Coded r
      coder_coded e = ⊎_elim (λ (k : Coded r × CodedFacts r). k.0) (λ (k : Uncoded r × UncodedFacts r). let z = k.1.coder in absurd (omega arith)) n.contents

  -- ---- order

  first' : 0 < length (rs ++ (r ∷ [])) → ((nth (rs ++ (r ∷ [])) 0).stripe ≡ 0) × ((nth (rs ++ (r ∷ [])) 0).layer ≡ 1)
  first' h =
      ⊎_elim
      (λ (z : length rs ≡ 0).
      let s = g.none z in
      subst (λ (x : Record). (x.stripe ≡ 0) × (x.layer ≡ 1)) (sym (nth_new rs r 0 (sym z)))
      (⊎_elim (λ (k : NextLayer st r). (omega arith, omega arith)) (λ (k : NextStripe st r). absurd (omega arith)) n.place))
      (λ (p : 0 < length rs). subst (λ (x : Record). (x.stripe ≡ 0) × (x.layer ≡ 1)) (sym (nth_old rs r 0 p)) (u.first p))
      (eq-zero-or-pos (length rs))

  behind : (x : Record) → x.stripe ≡ st.stripe → x.layer ≡ st.layer → Above x r ⊎ Opening x r
  behind x s l =
      ⊎_map (λ (k : NextLayer st r). (omega arith, omega arith))
      (λ (k : NextStripe st r). (omega arith, omega arith, (omega arith, omega arith)))
      n.place

  next' : (i : ℕ) → i + 1 < length (rs ++ (r ∷ []))
      → Above (nth (rs ++ (r ∷ [])) i) (nth (rs ++ (r ∷ [])) (i + 1)) ⊎ Opening (nth (rs ++ (r ∷ [])) i) (nth (rs ++ (r ∷ [])) (i + 1))
  next' i h =
      let l = length_more rs r in
      ⊎_elim
      (λ (z : length rs ≡ i + 1).
      let t = g.last i (sym z) in
      subst₂ (λ (x y : Record). Above x y ⊎ Opening x y) (sym (nth_old rs r i (omega arith))) (sym (nth_new rs r (i + 1) (sym z)))
      (behind (nth rs i) t.0 t.1))
      (λ (k : i + 1 < length rs).
      subst₂ (λ (x y : Record). Above x y ⊎ Opening x y) (sym (nth_old rs r i (omega arith))) (sym (nth_old rs r (i + 1) k)) (u.next i k))
      (last_or_before i l h)
    where
      last_or_before : (i : ℕ) → length (rs ++ (r ∷ [])) ≡ length rs + 1 → i + 1 < length (rs ++ (r ∷ [])) → (length rs ≡ i + 1) ⊎ (i + 1 < length rs)
      last_or_before i l h =
          ⊎_elim (λ (z : length rs ≡ i + 1). inl z) (λ (d : length rs ≢ i + 1). inr (omega arith)) (says_else (says_eq (length rs) (i + 1)))

  -- ---- pairs of records

  -- layer 1 of the new record's stripe, where that is layer 2
  under : (x : Record) → Among x rs → Main x r → (coded x ≡ st.coded1) × (x.res ≡ st.res1)
  under x m k = let f = fresh rs st r g n x m in let up = upward rs st r g n (omega arith) in g.ones x m (k.0 ∙ up.0.0) (omega arith)

  -- the new record stands above layer 2 of its stripe
  over : (y : Record) → Among y rs → Main r y → (3 ≤ r.layer) × (y.res ≡ st.main)
  over y m k = let f = fresh rs st r g n y m in (omega arith, (g.twos y m k.1).0)

  plain' : (x y : Record) → Among x (rs ++ (r ∷ [])) → Among y (rs ++ (r ∷ [])) → Main x y → Uncoded x → x.res ≡ y.res
  plain' =
      pair_more rs r (λ x y. Main x y → Uncoded x → x.res ≡ y.res)
      u.plain
      (λ x m k e.
      let f = under x m k in
      ⊎_elim (λ (t : st.coded1 ≡ true). absurd ((says_coded x).told (f.0 ∙ t) e)) (λ (t : st.res1 ≡ r.res). f.1 ∙ t) (page_facts k.1).res.same)
      (λ y m k e.
      let f = over y m k in
      ⊎_elim (λ (t : coded r ≡ true). absurd ((says_coded r).told t e)) (λ (t : r.res ≡ st.main). t ∙ sym f.1) (upper_facts f.0).res.same)
      (λ k e. refl)

  divides' : (x y : Record) → Among x (rs ++ (r ∷ [])) → Among y (rs ++ (r ∷ [])) → Main x y → x.res ∣ y.res
  divides' =
      pair_more rs r (λ x y. Main x y → x.res ∣ y.res)
      u.divides
      (λ x m k. subst (λ (a : ℕ). a ∣ r.res) (sym (under x m k).1) (page_facts k.1).res.divides)
      (λ y m k. let f = over y m k in subst (λ (a : ℕ). r.res ∣ a) (sym f.1) (upper_facts f.0).res.divides)
      (λ k. dvd_refl r.res)

  -- an earlier layer 2 has the new one's width and resolution
  earlier : (x : Record) → Among x rs → x.layer ≡ 2 → r.layer ≡ 2 → (x.width ≡ r.width) × (x.res ≡ r.res)
  earlier x m l e =
      let f = fresh rs st r g n x m in
      let t = g.twos x m l in
      ⊎_elim (λ (z : r.stripe ≡ 0). absurd (omega arith))
      (λ (z : (r.width ≡ st.width) × (r.res ≡ st.main)). (t.1 ∙ sym z.0, t.0 ∙ sym z.1))
      (page_facts e).same

  same' : (x y : Record) → Among x (rs ++ (r ∷ [])) → Among y (rs ++ (r ∷ [])) → x.layer ≡ 2 → y.layer ≡ 2
      → (x.width ≡ y.width) × (x.res ≡ y.res)
  same' =
      pair_more rs r (λ x y. x.layer ≡ 2 → y.layer ≡ 2 → (x.width ≡ y.width) × (x.res ≡ y.res))
      u.same
      (λ x m l e. earlier x m l e)
      (λ y m e l. let k = earlier y m l e in (sym k.0, sym k.1))
      (λ l e. (refl, refl))

  -- ---- the choice of coded layers 1 to 3: only a new layer 3 has something to say

  choice_more : (Q : Record → Record → Record → Type 0)
      → ((a b c : Record) → Among a rs → Among b rs → Among c rs → a.layer ≡ 1 → Main a b → c.layer ≡ 3 → Main c b → Q a b c)
      → ((a b : Record) → Among a rs → Among b rs → a.layer ≡ 1 → Main a b → r.layer ≡ 3 → Main r b → Q a b r)
      → (a b c : Record) → Among a (rs ++ (r ∷ [])) → Among b (rs ++ (r ∷ [])) → Among c (rs ++ (r ∷ []))
      → a.layer ≡ 1 → Main a b → c.layer ≡ 3 → Main c b → Q a b c
  choice_more Q old new a b c i j k =
      all_more rs r (λ a. a.layer ≡ 1 → Main a b → c.layer ≡ 3 → Main c b → Q a b c)
      (λ a ma.
      all_more rs r (λ b. a.layer ≡ 1 → Main a b → c.layer ≡ 3 → Main c b → Q a b c)
      (λ b mb.
      all_more rs r (λ c. a.layer ≡ 1 → Main a b → c.layer ≡ 3 → Main c b → Q a b c)
      (λ c mc. old a b c ma mb mc) (new a b ma mb) c k)
      (λ la ab lc cb. absurd (no_middle c k lc cb)) b j)
      (λ la ab lc cb. absurd (no_bottom b j la ab)) a i
    where
      no_middle : (c : Record) → Among c (rs ++ (r ∷ [])) → c.layer ≡ 3 → Main c r → ⊥
      no_middle =
          all_more rs r (λ c. c.layer ≡ 3 → Main c r → ⊥) (λ c m l k. let f = fresh rs st r g n c m in omega arith) (λ l k. omega arith)

      no_bottom : (b : Record) → Among b (rs ++ (r ∷ [])) → r.layer ≡ 1 → Main r b → ⊥
      no_bottom =
          all_more rs r (λ b. r.layer ≡ 1 → Main r b → ⊥) (λ b m l k. let f = fresh rs st r g n b m in omega arith) (λ l k. omega arith)

  -- the choice, in the records' own terms
  module _ (a b : Record) (ma : Among a rs) (mb : Among b rs) (la : a.layer ≡ 1) (ab : Main a b) (lr : r.layer ≡ 3) (rb : Main r b) where
    first_coded : coded a ≡ st.coded1
    first_coded = let up = upward rs st r g n (omega arith) in (g.ones a ma (omega arith) la).0

    second_coded : coded b ≡ st.coded2
    second_coded = let up = upward rs st r g n (omega arith) in (g.twos b mb ab.1).2 (omega arith)

    choice : ChoiceFacts st.coded1 st.coded2 (coded r)
    choice = ⊎_elim (λ (d : r.layer ≢ 3). absurd (d lr)) (λ (k : ChoiceFacts st.coded1 st.coded2 (coded r)). k) (upper_facts (omega arith)).choice

    some_coded : Coded a ⊎ Coded b ⊎ Coded r
    some_coded =
        ⊎_map (λ (e : st.coded1 ≡ true). (says_coded a).told (first_coded ∙ e))
        (⊎_map (λ (e : st.coded2 ≡ true). (says_coded b).told (second_coded ∙ e)) (λ (e : coded r ≡ true). (says_coded r).told e))
        choice.some

    mask_coded : Coded a → Coded r → Coded b
    mask_coded ca cr =
        ⊎_elim (λ (e : st.coded2 ≡ true). (says_coded b).told (second_coded ∙ e))
        (λ (d : (st.coded1 ≡ true) × (coded r ≡ true) → ⊥). absurd (d (sym first_coded ∙ (says_coded a).shown ca, (says_coded r).shown cr)))
        choice.mask

  tall' : heights (rs ++ (r ∷ [])) ≤ 65535
  tall' =
      let h = heights_more rs r in
      let l = g.left in
      ⊎_elim
      (λ (e : r.layer ≡ 2).
      let z : height_in r ≡ r.height = ap (λ (t : Bool). cond t r.height 0) (eq-eqb r.layer 2 e) in
      let f = (page_facts e).high in
      omega arith)
      (λ (d : r.layer ≢ 2).
      let z : height_in r ≡ 0 = ap (λ (t : Bool). cond t r.height 0) (ne_eqb r.layer 2 d) in
      omega arith)
      (says_else (says_eq r.layer 2))

  pub unbroken_more : Unbroken (rs ++ (r ∷ []))
  unbroken_more =
      record {
        zeros = all_more rs r (λ x. x.octets26 ≡ 0) u.zeros n.zeros;
        grey = all_more rs r (λ x. (x.octet17 ≡ 0) ⊎ Grey x) u.grey grey';
        first = first';
        next = next';
        few = all_more rs r (λ x. (x.stripe < 64) × (x.layer ≤ 15)) u.few (let s = stands rs st r g n in (s.0, s.2));
        coder = all_more rs r (λ x. Coded x → CoderOf x.layer x.coder) u.coder (λ c. (coded_facts c).coder);
        size = all_more rs r (λ x. Coded x → (x.width ≢ 0) × (x.height ≢ 0)) u.size (λ c. let f = coded_facts c in (f.width, f.height));
        ending = all_more rs r (λ x. Coded x → x.start + x.len < 4294967296) u.ending (λ c. (coded_facts c).ending);
        uncoded = all_more rs r (λ x. Uncoded x → (x.coder ≡ 0) × (x.start ≡ 0)) u.uncoded (λ e. let f = uncoded_facts e in (f.coder, f.start));
        empty =
            all_more rs r (λ x. Uncoded x → x.layer ≢ 2 → (x.x ≡ 0) × (x.y ≡ 0) × (x.width ≡ 0) × (x.height ≡ 0)) u.empty
            (λ e d. let f = empty_facts e d in (f.x, f.y, f.width, f.height));
        plain = plain';
        corner = all_more rs r (λ x. x.layer ≡ 2 → (x.x ≡ 0) × (x.y ≡ 0)) u.corner (λ e. let f = page_facts e in (f.x, f.y));
        wide = all_more rs r (λ x. x.layer ≡ 2 → (1 ≤ x.width) × (x.width ≤ 32768)) u.wide (λ e. let f = page_facts e in (f.narrow, f.wide));
        high = all_more rs r (λ x. x.layer ≡ 2 → 1 ≤ x.height) u.high (λ e. (page_facts e).low);
        tall = tall';
        same = same';
        listed = all_more rs r (λ x. _) u.listed n.listed;
        divides = divides';
        base =
            all_more rs r (λ x. x.layer % 2 ≡ 0 → (x.base0 ≡ 0) × (x.base1 ≡ 0) × (x.base2 ≡ 0)) u.base
            (λ e. let f = base_facts e in (f.0.0, f.0.1, f.1));
        some = choice_more (λ a b c. Coded a ⊎ Coded b ⊎ Coded c) u.some some_coded;
        mask = choice_more (λ a b c. Coded a → Coded c → Coded b) u.mask mask_coded;
      }
