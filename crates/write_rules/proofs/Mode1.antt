-- A Mode 1 stripe that is written: its three records, and the laws that the page's proofs know of it (Modes.antt).
-- Assumes nothing.
use Prim.Native.Nat.{ℕ, ◌+◌, ◌≤◌}
use native.Mathlib.Omega.{arith}
use mathlib.Core.Path.{◌≡◌, refl, sym, ap, subst, ◌∙◌}
use mathlib.Core.Logic.{inl, inr, ◌≢◌, ⊎_elim}
use mathlib.Core.Bool.{Bool, true, false, cond}
use mathlib.Core.List.Memᴰ
use mathlib.Core.List.{List, [], ◌∷◌, ◌++◌, map, append_assoc}
use lib.ListN.{length, drop, length-append}
use borrow.Author.Tests.{eq-eqb, ne_eqb}
use Rattle.octets.proofs.Laws.{drop_next}
use Rattle.laws.proofs.Cases.{bool_else}
use Rattle.laws.specs.Tests.{only}
use Rattle.segment_rules.specs.declared.Mode.TheVariants.{One}
use Rattle.sheet_rules.specs.declared.Record.{Record}
use Rattle.sheet_rules.specs.Record.{nth, sum_of}
use Rattle.sheet_rules.specs.Judge.{coded}
use Rattle.sheet_rules.specs.Sentences.{Among, Coded, Uncoded, heights}
use lib.Dec.{eqb}
use Rattle.sheet_rules.proofs.New.{BaseFacts, ChoiceFacts, says_coded}
use Rattle.jpeg_rules.specs.Said.{record_said}
use Rattle.jpeg_rules.specs.Grammar.{Layer}
use Rattle.start_rules.specs.declared.Head.{Head}
use Rattle.mode1_rules.specs.Kinds.{stripe_body, has_back, has_mask, has_fore, mask_record}
use Rattle.mode1_rules.specs.Grammar.{fields_of, Widths, GoodFields, Image, records_of, Stripe}
use Rattle.mode1_rules.proofs.Tables.{length_fields}
use Rattle.write_rules.specs.Layer.{layer_octets}
use Rattle.write_rules.specs.Mode1.{head1, type_by, fields_by, layer_in, rest1, Trimmed}
use Rattle.write_rules.specs.Form.{bare}
use Rattle.write_rules.proofs.Passed.{coder_nonzero}
use Rattle.write_rules.proofs.Cut.{Upward, top, up, Lot, second_of}
use Rattle.write_rules.proofs.Ready.{Sized, Under, Ready}
use Rattle.write_rules.proofs.Placed.{cons_same, uncoded_is, Contents, contents_of, contents_coded, contents_empty, placed_at, bare_placed, data_placed}
use Rattle.write_rules.proofs.Mode1Records.{Spares, back_bit, mask_bit, fore_bit, type_by_lem, type_small, image_is, image_made, image_record_lem, mask_record_lem}

-- ---- a sheet's stripe without a layer above 3 has three records

pub record Three (hd : Head) (k left : ℕ) (a b c : Record) : Type 0 where
  pub stripes : (a.stripe ≡ k) × (b.stripe ≡ k) × (c.stripe ≡ k)
  pub layers : (a.layer ≡ 1) × (b.layer ≡ 2) × (c.layer ≡ 3)
  pub spares : Spares a × Spares b × Spares c
  pub contents : Contents a × Contents b × Contents c
  pub back_res : Uncoded a → a.res ≡ hd.main
  pub fore_res : Uncoded c → c.res ≡ hd.main
  pub corner : (b.x ≡ 0) × (b.y ≡ 0)
  pub base : BaseFacts b
  pub main : b.res ≡ hd.main
  pub width : b.width ≡ hd.width
  pub tall : heights (a ∷ b ∷ c ∷ []) ≡ b.height
  pub height : (1 ≤ b.height) × (b.height ≤ left)
  pub choice : ChoiceFacts (coded a) (coded b) (coded c)

pub data IsThree (hd : Head) (k left : ℕ) : List Record → Type 0 where
  three : {a b c : Record} → Three hd k left a b c → IsThree hd k left (a ∷ b ∷ c ∷ [])

heights_three : (a b c : Record) → a.layer ≡ 1 → b.layer ≡ 2 → c.layer ≡ 3 → heights (a ∷ b ∷ c ∷ []) ≡ b.height
unfolding heights sum_of
heights_three a b c la lb lc =
    let ea : only (eqb a.layer 2) a.height ≡ 0 = ap (λ (t : Bool). only t a.height) (ne_eqb a.layer 2 (λ z. omega arith)) in
    let eb : only (eqb b.layer 2) b.height ≡ b.height = ap (λ (t : Bool). only t b.height) (eq-eqb b.layer 2 lb) in
    let ec : only (eqb c.layer 2) c.height ≡ 0 = ap (λ (t : Bool). only t c.height) (ne_eqb c.layer 2 (λ z. omega arith)) in
    omega arith

module _ (hd : Head) (rs : List Record) (u : Under One hd rs) (k left : ℕ) where
  facts : (a b c : Record) → Among a rs → Among b rs → Among c rs → (a.stripe ≡ k) × (b.stripe ≡ k) × (c.stripe ≡ k)
      → (a.layer ≡ 1) × (b.layer ≡ 2) × (c.layer ≡ 3) → heights (a ∷ b ∷ c ∷ []) ≤ left → Three hd k left a b c
  facts a b c ma mb mc s l high =
      let v = u.sheet.unbroken in
      let two = second_of rs u.sheet in
      let same = v.same b (nth rs 1) mb two.0 l.1 two.1 in
      let main : b.res ≡ hd.main = same.1 ∙ sym u.main in
      let tall = heights_three a b c l.0 l.1 l.2 in
      let ab : (a.stripe ≡ b.stripe) × (b.layer ≡ 2) = (s.0 ∙ sym s.1, l.1) in
      let cb : (c.stripe ≡ b.stripe) × (b.layer ≡ 2) = (s.2 ∙ sym s.1, l.1) in
      let l1 = l.1 in
      let base = v.base b mb (omega arith) in
      record {
        stripes = s;
        layers = l;
        spares = ((v.grey a ma, v.zeros a ma), (v.grey b mb, v.zeros b mb), (v.grey c mc, v.zeros c mc));
        contents = (contents_of rs v a ma, contents_of rs v b mb, contents_of rs v c mc);
        back_res = λ z. v.plain a b ma mb ab z ∙ main;
        fore_res = λ z. v.plain c b mc mb cb z ∙ main;
        corner = v.corner b mb l.1;
        base = ((base.0, base.1), base.2);
        main = main;
        width = same.0 ∙ sym u.width;
        tall = tall;
        height = (v.high b mb l.1, omega arith);
        choice =
            record {
              some =
                  ⊎_elim (λ (z : Coded a). inl ((says_coded a).shown z))
                  (⊎_elim (λ (z : Coded b). inr (inl ((says_coded b).shown z))) (λ (z : Coded c). inr (inr ((says_coded c).shown z))))
                  (v.some a b c ma mb mc l.0 ab l.2 cb);
              mask =
                  ⊎_elim (λ (e : coded b ≡ true). inl e)
                  (λ (e : coded b ≡ false). inr (λ p. v.mask a b c ma mb mc l.0 ab l.2 cb ((says_coded a).told p.0) ((says_coded c).told p.1) (uncoded_is b e)))
                  (bool_else (coded b));
            };
      }

  count : (q : List Record) → Upward k 0 q → ((r : Record) → Among r q → Among r rs) → heights q ≤ left → IsThree hd k left q
  count [] (top h) f high = absurd (omega arith)
  count (a ∷ []) (up ea la (top h)) f high = absurd (omega arith)
  count (a ∷ b ∷ []) (up ea la (up eb lb (top h))) f high = absurd (omega arith)
  count (a ∷ b ∷ c ∷ []) (up ea la (up eb lb (up ec lc (top h)))) f high =
      three (facts a b c (f a (Memᴰ.head refl)) (f b (Memᴰ.tail (Memᴰ.head refl))) (f c (Memᴰ.tail (Memᴰ.tail (Memᴰ.head refl)))) (ea, eb, ec) (la, lb, lc) high)
  count (a ∷ b ∷ c ∷ e ∷ q) (up ea la (up eb lb (up ec lc (up ee le more)))) f high =
      let h = u.low e (f e (Memᴰ.tail (Memᴰ.tail (Memᴰ.tail (Memᴰ.head refl))))) in absurd (omega arith)

  pub three_of : (q : List Record) → Lot rs k left q → IsThree hd k left q
  three_of q l = count q l.layers l.among l.high

-- ---- it is a stripe of the grammar, with the records that were lent, moved, and in the writer's form

unfoldable pub moved1 : List ℕ → ℕ → List Record → List Record
moved1 d at q =
    placed_at (layer_in q 1) (at + stripe_body + length (layer_octets d (layer_in q 2)))
    ∷ placed_at (layer_in q 2) (at + stripe_body)
    ∷ placed_at (layer_in q 3) (at + stripe_body + length (layer_octets d (layer_in q 2)) + length (layer_octets d (layer_in q 1))) ∷ []

module _ (d : List ℕ) (hd : Head) (k left at : ℕ) (a b c : Record) (t : Three hd k left a b c)
    (za : Sized a) (zb : Sized b) (zc : Sized c)
    (na : length (layer_octets d a) ≡ a.len) (nb : length (layer_octets d b) ≡ b.len) (nc : length (layer_octets d c) ≡ c.len)
    (ya : Coded a → Layer hd.main (layer_octets d a) (record_said a))
    (yc : Coded c → Layer hd.main (layer_octets d c) (record_said c))
    (mb : Coded b → hd.mask ≡ b.coder) (ia : Coded a → hd.image ≡ 1) (ic : Coded c → hd.image ≡ 1) where
  back_is : has_back (type_by (coded a) (coded b) (coded c)) ≡ coded a
  back_is = back_bit (coded a) (coded b) (coded c)

  mask_is : has_mask (type_by (coded a) (coded b) (coded c)) ≡ coded b
  mask_is = mask_bit (coded a) (coded b) (coded c)

  fore_is : has_fore (type_by (coded a) (coded b) (coded c)) ≡ coded c
  fore_is = fore_bit (coded a) (coded b) (coded c)

  widths : Widths (fields_by a b c)
  widths =
      let oa = za.offset in
      let oc = zc.offset in
      record {
        kind = type_small (coded a) (coded b) (coded c);
        back = za.base;
        fore = zc.base;
        offsets = (omega arith, omega arith, omega arith, omega arith);
        mask_length = zb.len;
      }

  good : GoodFields hd left (fields_by a b c)
  good =
      record {
        kind = type_by_lem (coded a) (coded b) (coded c) t.choice;
        mask_coder = λ e z.
            let y = (says_coded b).told (sym mask_is ∙ e) in
            coder_nonzero b.layer b.coder (contents_coded b t.contents.1 (sym mask_is ∙ e)).coder (sym (mb y) ∙ z);
        image_coder = λ e z.
            ⊎_elim (λ (f : has_back (type_by (coded a) (coded b) (coded c)) ≡ true). let i = ia ((says_coded a).told (sym back_is ∙ f)) in omega arith)
            (λ (f : has_fore (type_by (coded a) (coded b) (coded c)) ≡ true). let i = ic ((says_coded c).told (sym fore_is ∙ f)) in omega arith)
            e;
        back = λ e. za.offset;
        fore = λ e. zc.offset;
        height = t.height;
        mask = (λ e. (says_coded b).told (sym mask_is ∙ e), λ e. uncoded_is b (sym mask_is ∙ e));
      }

  made : records_of hd k (fields_by a b c) (at + stripe_body) (image_is (coded a) a (layer_octets d a) (at + stripe_body + length (layer_octets d b)))
      (image_is (coded c) c (layer_octets d c) (at + stripe_body + length (layer_octets d b) + length (layer_octets d a)))
      ≡ placed_at a (at + stripe_body + length (layer_octets d b)) ∷ placed_at b (at + stripe_body) ∷ placed_at c (at + stripe_body + length (layer_octets d b) + length (layer_octets d a)) ∷ []
  made =
      let s = t.stripes in
      let l = t.layers in
      let e1 = image_record_lem hd k 1 (at + stripe_body + length (layer_octets d b)) d a s.0 l.0 refl t.spares.0 t.contents.0 t.back_res na in
      let e2 =
      ap (λ (y : Bool). mask_record hd k b.height (cond y hd.mask 0) (cond y (at + stripe_body) 0) b.len) mask_is
      ∙ mask_record_lem hd k (at + stripe_body) b (coded b) refl s.1 l.1 t.spares.1 t.contents.1 t.corner t.base t.width t.main mb in
      let e3 = image_record_lem hd k 3 (at + stripe_body + length (layer_octets d b) + length (layer_octets d a)) d c s.2 l.2 refl t.spares.2 t.contents.2 t.fore_res nc in
      cons_same e1 (cons_same e2 (cons_same e3 refl))

  lands : Stripe hd k left at (rest1 d (a ∷ b ∷ c ∷ [])) (heights (a ∷ b ∷ c ∷ []))
      (placed_at a (at + stripe_body + length (layer_octets d b)) ∷ placed_at b (at + stripe_body) ∷ placed_at c (at + stripe_body + length (layer_octets d b) + length (layer_octets d a)) ∷ [])
  unfolding rest1
  lands =
      record {
        fields = fields_by a b c;
        mask = layer_octets d b;
        back = layer_octets d a;
        fore = layer_octets d c;
        back_is = image_is (coded a) a (layer_octets d a) (at + stripe_body + length (layer_octets d b));
        fore_is = image_is (coded c) c (layer_octets d c) (at + stripe_body + length (layer_octets d b) + length (layer_octets d a));
        octets = refl;
        widths = widths;
        good = good;
        size = nb;
        back_there =
            subst (λ (y : Bool). Image hd.main (at + stripe_body + length (layer_octets d b)) y (layer_octets d a) (image_is (coded a) a (layer_octets d a) (at + stripe_body + length (layer_octets d b)))) (sym back_is)
            (image_made hd.main (at + stripe_body + length (layer_octets d b)) d a ya);
        fore_there =
            subst
            (λ (y : Bool).
            Image hd.main (at + stripe_body + length (layer_octets d b) + length (layer_octets d a)) y (layer_octets d c)
            (image_is (coded c) c (layer_octets d c) (at + stripe_body + length (layer_octets d b) + length (layer_octets d a))))
            (sym fore_is)
            (image_made hd.main (at + stripe_body + length (layer_octets d b) + length (layer_octets d a)) d c yc);
        tall = t.tall;
        records = sym made;
      }

  trim : Trimmed lands.fields
  unfolding lands
  trim =
      let l = t.layers in
      record {
        back = λ e. let f = contents_empty a t.contents.0 (λ z. omega arith) (sym back_is ∙ e) in (f.x, f.y);
        fore = λ e. let f = contents_empty c t.contents.2 (λ z. omega arith) (sym fore_is ∙ e) in (f.x, f.y);
      }

pub record Landed1 (d : List ℕ) (hd : Head) (k left at : ℕ) (q : List Record) : Type 0 where
  pub stripe : Stripe hd k left at (rest1 d q) (heights q) (moved1 d at q)
  pub trim : Trimmed stripe.fields

module _ (d : List ℕ) (hd : Head) (rs : List Record) (y : Ready d hd rs) (k left at : ℕ) where
  pub stripe_lands1 : (q : List Record) → ((r : Record) → Among r q → Among r rs) → IsThree hd k left q → Landed1 d hd k left at q
  unfolding moved1
  stripe_lands1 (a ∷ b ∷ c ∷ []) f (three t) =
      let l = t.layers in
      let ma = f a (Memᴰ.head refl) in
      let mb = f b (Memᴰ.tail (Memᴰ.head refl)) in
      let mc = f c (Memᴰ.tail (Memᴰ.tail (Memᴰ.head refl))) in
      let na : a.layer ≢ 2 = λ z. omega arith in
      let nc : c.layer ≢ 2 = λ z. omega arith in
      let ya : Coded a → Layer hd.main (layer_octets d a) (record_said a) = λ e. y.layer a ma e na in
      let yc : Coded c → Layer hd.main (layer_octets d c) (record_said c) = λ e. y.layer c mc e nc in
      record {
        stripe =
            lands d hd k left at a b c t (y.sized a ma) (y.sized b mb) (y.sized c mc) (y.long a ma) (y.long b mb) (y.long c mc) ya yc (λ e. y.mask b mb e l.1)
            (λ e. y.image a ma e na) (λ e. y.image c mc e nc);
        trim =
            trim d hd k left at a b c t (y.sized a ma) (y.sized b mb) (y.sized c mc) (y.long a ma) (y.long b mb) (y.long c mc) ya yc (λ e. y.mask b mb e l.1)
            (λ e. y.image a ma e na) (λ e. y.image c mc e nc);
      }
  stripe_lands1 [] f x'' = elim x'' [ ]
  stripe_lands1 (a ∷ []) f x6 = elim x6 [ ]
  stripe_lands1 (a ∷ (b ∷ [])) f x10 = elim x10 [ ]
  stripe_lands1 (a ∷ (b ∷ (c ∷ (_ ∷ _)))) f x16 = elim x16 [ ]

-- ---- the records are those lent, but for the starts of the coded ones

pub stripe_same1 : (d : List ℕ) (hd : Head) (k left at : ℕ) (q : List Record) → IsThree hd k left q → map bare (moved1 d at q) ≡ map bare q
unfolding moved1
stripe_same1 d hd k left at (a ∷ b ∷ c ∷ []) (three t) =
    let k = t.contents in
    cons_same (bare_placed a (at + stripe_body + length (layer_octets d b)) k.0)
    (cons_same (bare_placed b (at + stripe_body) k.1)
    (cons_same (bare_placed c (at + stripe_body + length (layer_octets d b) + length (layer_octets d a)) k.2) refl))
stripe_same1 d hd k left at [] x' = elim x' [ ]
stripe_same1 d hd k left at (a ∷ []) x4 = elim x4 [ ]
stripe_same1 d hd k left at (a ∷ (b ∷ [])) x7 = elim x7 [ ]
stripe_same1 d hd k left at (a ∷ (b ∷ (c ∷ (_ ∷ _)))) x12 = elim x12 [ ]

-- ---- and their data is the data of those lent

-- a stripe that stands at a place, opened
stripe_open : (d s more : List ℕ) (a b c : Record) (at : ℕ) → drop at s ≡ rest1 d (a ∷ b ∷ c ∷ []) ++ more
    → drop at s ≡ fields_of (fields_by a b c) ++ (layer_octets d b ++ (layer_octets d a ++ (layer_octets d c ++ more)))
unfolding rest1
stripe_open d s more a b c at e = e ∙ simp append_assoc

module _ (d s more : List ℕ) (a b c : Record) (at : ℕ) (e : drop at s ≡ rest1 d (a ∷ b ∷ c ∷ []) ++ more) where
  at_mask : drop (at + stripe_body) s ≡ layer_octets d b ++ (layer_octets d a ++ (layer_octets d c ++ more))
  at_mask =
      ap (λ (j : ℕ). drop (at + j) s) (sym (length_fields (fields_by a b c)))
      ∙ drop_next s (fields_of (fields_by a b c)) (layer_octets d b ++ (layer_octets d a ++ (layer_octets d c ++ more))) at (stripe_open d s more a b c at e)

  at_back : drop (at + stripe_body + length (layer_octets d b)) s ≡ layer_octets d a ++ (layer_octets d c ++ more)
  at_back = drop_next s (layer_octets d b) (layer_octets d a ++ (layer_octets d c ++ more)) (at + stripe_body) at_mask

  at_fore : drop (at + stripe_body + length (layer_octets d b) + length (layer_octets d a)) s ≡ layer_octets d c ++ more
  at_fore = drop_next s (layer_octets d a) (layer_octets d c ++ more) (at + stripe_body + length (layer_octets d b)) at_back

pub stripe_data1 : (d : List ℕ) (hd : Head) (k left at : ℕ) (q : List Record) → IsThree hd k left q → ((r : Record) → Among r q → length (layer_octets d r) ≡ r.len)
    → (s more : List ℕ) → drop at s ≡ rest1 d q ++ more → map (layer_octets s) (moved1 d at q) ≡ map (layer_octets d) q
unfolding moved1
stripe_data1 d hd k left at (a ∷ b ∷ c ∷ []) (three t) n s more e =
    cons_same (data_placed d s (layer_octets d c ++ more) a (at + stripe_body + length (layer_octets d b)) (n a (Memᴰ.head refl)) (at_back d s more a b c at e))
    (cons_same (data_placed d s (layer_octets d a ++ (layer_octets d c ++ more)) b (at + stripe_body) (n b (Memᴰ.tail (Memᴰ.head refl))) (at_mask d s more a b c at e))
    (cons_same
    (data_placed d s more c (at + stripe_body + length (layer_octets d b) + length (layer_octets d a)) (n c (Memᴰ.tail (Memᴰ.tail (Memᴰ.head refl)))) (at_fore d s more a b c at e))
    refl))
stripe_data1 d hd k left at [] x3 n s more e = elim x3 [ ]
stripe_data1 d hd k left at (a ∷ []) x8 n s more e = elim x8 [ ]
stripe_data1 d hd k left at (a ∷ (b ∷ [])) x13 n s more e = elim x13 [ ]
stripe_data1 d hd k left at (a ∷ (b ∷ (c ∷ (_ ∷ _)))) x20 n s more e = elim x20 [ ]

-- ---- its octets are as many as were counted

pub head_first : (r : Record) → r.layer ≡ 1 → head1 r ≡ 39
head_first r e = ap (λ (b : Bool). only b 39) (eq-eqb r.layer 1 e)

pub head_other : (r : Record) → r.layer ≢ 1 → head1 r ≡ 0
head_other r e = ap (λ (b : Bool). only b 39) (ne_eqb r.layer 1 e)

length_stripe : (d : List ℕ) (a b c : Record) → length (rest1 d (a ∷ b ∷ c ∷ [])) ≡ stripe_body + length (layer_octets d b) + length (layer_octets d a) + length (layer_octets d c)
unfolding rest1
length_stripe d a b c =
    let e1 = length-append (fields_of (fields_by a b c)) (layer_octets d b ++ (layer_octets d a ++ layer_octets d c)) in
    let e2 = length-append (layer_octets d b) (layer_octets d a ++ layer_octets d c) in
    let e3 = length-append (layer_octets d a) (layer_octets d c) in
    let e4 = length_fields (fields_by a b c) in
    omega arith

pub head_few1 : (r : Record) → head1 r ≤ 65535
head_few1 r = go (eqb r.layer 1)
  where
    go : (b : Bool) → only b 39 ≤ 65535
    go true = omega arith
    go false = omega arith

pub stripe_length1 : (d : List ℕ) (hd : Head) (k left : ℕ) (q : List Record) → IsThree hd k left q → ((r : Record) → Among r q → length (layer_octets d r) ≡ r.len)
    → 8 + length (rest1 d q) ≡ sum_of (λ (r : Record). head1 r + r.len) q
unfolding sum_of
stripe_length1 d hd k left (a ∷ b ∷ c ∷ []) (three t) n =
    let l = t.layers in
    let ea = head_first a l.0 in
    let eb = head_other b (λ z. omega arith) in
    let ec = head_other c (λ z. omega arith) in
    let na = n a (Memᴰ.head refl) in
    let nb = n b (Memᴰ.tail (Memᴰ.head refl)) in
    let nc = n c (Memᴰ.tail (Memᴰ.tail (Memᴰ.head refl))) in
    let y = length_stripe d a b c in
    omega arith
stripe_length1 d hd k left [] x'' n = elim x'' [ ]
stripe_length1 d hd k left (a ∷ []) x6 n = elim x6 [ ]
stripe_length1 d hd k left (a ∷ (b ∷ [])) x10 n = elim x10 [ ]
stripe_length1 d hd k left (a ∷ (b ∷ (c ∷ (_ ∷ _)))) x16 n = elim x16 [ ]
