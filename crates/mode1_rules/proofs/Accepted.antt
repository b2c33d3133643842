-- The three records of a stripe are accepted by the judge as that stripe's.
-- Assumes nothing.
use Prim.Native.Nat.{ℕ, ◌+◌, ◌%◌, ◌≤◌, ◌<◌}
use native.Mathlib.Omega.{arith}
use native.Mathlib.Nat.{dvd_refl}
use mathlib.Core.Path.{◌≡◌, refl, sym, ap, subst, ◌∙◌}
use mathlib.Core.Logic.{◌⊎◌, inl, inr, ◌≢◌, ⊎_elim}
use mathlib.Core.Bool.{Bool, true, false, not, cond}
use mathlib.Core.List.{List, [], ◌∷◌}
use lib.ListN.{length}
use lib.Dec.{lit≤}
use borrow.Author.Tests.{eq-eqb, ne_eqb}
use Rattle.laws.proofs.Says.{says_eq, says_not}
use Rattle.sheet_rules.specs.declared.Colour.{Colour}
use Rattle.sheet_rules.specs.declared.Record.{Record}
use Rattle.sheet_rules.specs.declared.State.{State}
use Rattle.std.specs.Prelude.{Option, Some, None}
use Rattle.mode1_rules.specs.declared.LayerData.{LayerData}
use Rattle.sheet_rules.specs.Judge.{coded as is_coded, choice_ok, after, after1, after2, after3, step_of, on_step, run}
use Rattle.sheet_rules.specs.Sentences.{Coded, Uncoded as UncodedRecord, CoderOf, Listed}
use Rattle.sheet_rules.proofs.New.{CodedFacts, UncodedFacts, ResFacts, GreyFacts, New, says_choice}
use Rattle.sheet_rules.proofs.Backward.{listed_nonzero}
use Rattle.sheet_rules.proofs.Fold.{step_next}
use Rattle.jpeg_rules.specs.declared.Said.{Said}
use Rattle.jpeg_rules.specs.Said.{grey_octet}
use Rattle.jpeg_rules.specs.Grammar.{Layer}
use Rattle.jpeg_rules.proofs.Grey.{octet_two}
use Rattle.segment_rules.specs.declared.Mode.{Mode}
use Rattle.segment_rules.specs.declared.Mode.TheVariants.{One}
use Rattle.segment_rules.specs.Rules.{longest_page}
use Rattle.start_rules.specs.declared.Head.{Head}
use Rattle.start_rules.specs.Grammar.{GoodHead, MaskCoder}
use Rattle.body_rules.proofs.Accepted.{Between, Ready, Ran}
use Rattle.mode1_rules.specs.Kinds.{stripe_body, has_back, has_mask, has_fore, image_record, mask_record}
use Rattle.mode1_rules.specs.Grammar.{TypeOf, Image, there, absent, Stripe}
use Rattle.mode1_rules.proofs.Parts.{back_in, mask_in, fore_in, stripe_length}

-- ---- an image layer's record

-- what the judge asks of it, whatever its layer: its contents, and its resolution
record ImageFacts (main k l : ℕ) (b : Bool) (r : Record) : Type 0 where
  stripe_is : r.stripe ≡ k
  layer_is : r.layer ≡ l
  zeros : r.octets26 ≡ 0
  grey : (r.octet17 ≡ 0) ⊎ GreyFacts r
  coded_is : is_coded r ≡ b
  contents : (Coded r × CodedFacts r) ⊎ (UncodedRecord r × UncodedFacts r)
  listed : Listed r.res
  res : ResFacts b r.res main

layer_size : {main : ℕ} {said : Said} (l : List ℕ) → Layer main l said → length l ≢ 0
layer_size l y z = let a = ap length y.octets in omega arith

image_facts : (hd : Head) (k l at : ℕ) (base : Colour) (x y : ℕ) (b : Bool) (o : List ℕ) (c : Option LayerData) → (l % 2 ≡ 1) → Listed hd.main → at + length o ≤ longest_page
    → Image hd.main at b o c → ImageFacts hd.main k l b (image_record hd k l base x y c)
unfolding image_record
image_facts hd k l at base x y b o c odd g small (there {said = said} z) =
    let nz = layer_size o z in
    record {
      stripe_is = refl;
      layer_is = refl;
      zeros = refl;
      grey =
          ⊎_elim (λ (y : (said.components ≡ 1) × (grey_octet said.components ≡ 1)). inr ((y.1, odd), refl))
          (λ (y : (said.components ≡ 3) × (grey_octet said.components ≡ 0)). inl y.1)
          (octet_two said.components z.counted);
      coded_is = (says_not (says_eq (length o) 0)).shown nz;
      contents = inl (nz, record { coder = inl refl; width = z.wide; height = z.high; ending = omega arith });
      listed = z.listed;
      res = record { nonzero = listed_nonzero said.res z.listed; divides = z.divides; same = inl refl };
    }
image_facts hd k l at base x y b o c odd g small absent =
    record {
      stripe_is = refl;
      layer_is = refl;
      zeros = refl;
      grey = inl refl;
      coded_is = refl;
      contents = inr (refl, record { coder = refl; start = refl; empty = inr (record { x = refl; y = refl; width = refl; height = refl }) });
      listed = g;
      res = record { nonzero = listed_nonzero hd.main g; divides = dvd_refl hd.main; same = inr refl };
    }

-- ---- the choice of layers that a type can name

choice : (t : ℕ) → TypeOf t → choice_ok (has_back t) (has_mask t) (has_fore t) ≡ true
choice t (inl e) = ap (λ (t : ℕ). choice_ok (has_back t) (has_mask t) (has_fore t)) e
choice t (inr (inl e)) = ap (λ (t : ℕ). choice_ok (has_back t) (has_mask t) (has_fore t)) e
choice t (inr (inr (inl e))) = ap (λ (t : ℕ). choice_ok (has_back t) (has_mask t) (has_fore t)) e
choice t (inr (inr (inr (inl e)))) = ap (λ (t : ℕ). choice_ok (has_back t) (has_mask t) (has_fore t)) e
choice t (inr (inr (inr (inr (inl e))))) = ap (λ (t : ℕ). choice_ok (has_back t) (has_mask t) (has_fore t)) e
choice t (inr (inr (inr (inr (inr e))))) = ap (λ (t : ℕ). choice_ok (has_back t) (has_mask t) (has_fore t)) e

mask_coder_lem : (m : Mode) (c : ℕ) → MaskCoder m c → c ≢ 0 → CoderOf 2 c
mask_coder_lem One c (inl e) d = absurd (d e)
mask_coder_lem One c (inr (inl e)) d = inl e
mask_coder_lem One c (inr (inr (inl e))) d = inr (refl, inl e)
mask_coder_lem One c (inr (inr (inr (inl e)))) d = inr (refl, inr (inl e))
mask_coder_lem One c (inr (inr (inr (inr e)))) d = inr (refl, inr (inr e))

-- ---- the mask's record

record MaskFacts (b : Bool) (r : Record) : Type 0 where
  coded_is : is_coded r ≡ b
  contents : (Coded r × CodedFacts r) ⊎ (UncodedRecord r × UncodedFacts r)

mask_facts : (hd : Head) (k height at n : ℕ) (b : Bool) → MaskCoder hd.rules.mode hd.mask → (b ≡ true → hd.mask ≢ 0) → 1 ≤ hd.width → 1 ≤ height → at + n ≤ longest_page
    → (b ≡ true → n ≡ 0 → ⊥) × (b ≡ false → n ≡ 0) → MaskFacts b (mask_record hd k height (cond b hd.mask 0) (cond b at 0) n)
unfolding mask_record
mask_facts hd k height at n true g c w h small m =
    record {
      coded_is = (says_not (says_eq n 0)).shown (m.0 refl);
      contents = inl (m.0 refl, record { coder = mask_coder_lem hd.rules.mode hd.mask g (c refl); width = λ z. omega arith; height = λ z. omega arith; ending = omega arith });
    }
mask_facts hd k height at n false g c w h small m =
    record {
      coded_is = ap (λ (t : Bool). not t) (eq-eqb n 0 (m.1 refl));
      contents = inr (m.1 refl, record { coder = refl; start = refl; empty = inl refl });
    }

-- ---- the states after the three records

module _ (st : State) (r : Record) where
  pub after_is_1 : r.layer ≡ 1 → after st r ≡ after1 st r
  unfolding after
  after_is_1 e = simp (eq-eqb r.layer 1 e)

  pub after_is_2 : r.layer ≡ 2 → after st r ≡ after2 st r
  unfolding after
  after_is_2 e = simp (ne_eqb r.layer 1 (λ z. omega arith), eq-eqb r.layer 2 e)

  pub after_is_3 : r.layer ≡ 3 → after st r ≡ after3 st r
  unfolding after
  after_is_3 e = simp (ne_eqb r.layer 1 (λ z. omega arith), ne_eqb r.layer 2 (λ z. omega arith))

module _ (hd : Head) (g : GoodHead hd) (k left at : ℕ) (l : List ℕ) (height : ℕ) (rs : List Record) (z : Stripe hd k left at l height rs)
    (few : k < 64) (small : at + length l ≤ longest_page) (st : State) (rdy : Ready hd.main hd.width k left st) where
  one : ImageFacts hd.main k 1 (has_back z.fields.kind) (back_in z)
  one =
      let q = stripe_length z in
      image_facts hd k 1 (at + stripe_body + length z.mask) z.fields.back z.fields.back_x z.fields.back_y (has_back z.fields.kind) z.back z.back_is refl g.main (omega arith) z.back_there

  two : MaskFacts (has_mask z.fields.kind) (mask_in z)
  two =
      let q = stripe_length z in
      let n = z.size in
      let w = g.width in
      let h = z.good.height in
      mask_facts hd k z.fields.height (at + stripe_body) z.fields.mask_length (has_mask z.fields.kind) g.mask z.good.mask_coder w.0 h.0 (omega arith) z.good.mask

  three : ImageFacts hd.main k 3 (has_fore z.fields.kind) (fore_in z)
  three =
      let q = stripe_length z in
      image_facts hd k 3 (at + stripe_body + length z.mask + length z.back) z.fields.fore z.fields.fore_x z.fields.fore_y (has_fore z.fields.kind) z.fore z.fore_is refl g.main (omega arith) z.fore_there

  new1 : New st (back_in z)
  new1 =
      let x = one in
      let si = x.stripe_is in
      let li = x.layer_is in
      record {
        zeros = x.zeros;
        grey = x.grey;
        place =
            ⊎_elim
            (λ (y : (k ≡ 0) × (st.stripe ≡ 0) × (st.layer ≡ 0)). inl ((omega arith, omega arith), omega arith))
            (λ (y : Between hd.main hd.width k st).
            inr (((omega arith, omega arith), omega arith), (omega arith, omega arith)))
            rdy.place;
        contents = x.contents;
        listed = x.listed;
        base = inl (omega arith);
        layer = inl li;
      }

  st1 : State
  st1 = after1 st (back_in z)

  new2 : New st1 (mask_in z)
  unfolding st1 after1 mask_record
  new2 =
      let x = one in
      let si = x.stripe_is in
      let li = x.layer_is in
      let y = two in
      let w = g.width in
      let h = z.good.height in
      let ll = rdy.left_is in
      record {
        zeros = refl;
        grey = inl refl;
        place = inl ((sym si, omega arith), lit≤ tt);
        contents = y.contents;
        listed = g.main;
        base = inr ((refl, refl), refl);
        layer =
            inr
            (inl (
              refl,
              record {
                x = refl;
                y = refl;
                narrow = w.0;
                wide = w.1;
                low = h.0;
                high = omega arith;
                same =
                    ⊎_elim (λ (y : (k ≡ 0) × (st.stripe ≡ 0) × (st.layer ≡ 0)). inl y.0)
                    (λ (y : Between hd.main hd.width k st). inr (sym y.3, sym y.2))
                    rdy.place;
                res = subst (λ (b : Bool). ResFacts b (back_in z).res hd.main) (sym x.coded_is) x.res;
              },
            ));
      }

  st2 : State
  st2 = after2 st1 (mask_in z)

  new3 : New st2 (fore_in z)
  unfolding st2 st1 after2 after1 mask_record
  new3 =
      let x = three in
      let si = x.stripe_is in
      let li = x.layer_is in
      record {
        zeros = x.zeros;
        grey = x.grey;
        place = inl ((si, li), omega arith);
        contents = x.contents;
        listed = x.listed;
        base = inl (omega arith);
        layer =
            inr
            (inr (
              omega arith,
              record {
                res = subst (λ (b : Bool). ResFacts b (fore_in z).res hd.main) (sym x.coded_is) x.res;
                choice = inr ((says_choice (is_coded (back_in z)) (is_coded (mask_in z)) (is_coded (fore_in z))).told picked);
              },
            ));
      }
    where
      picked : choice_ok (is_coded (back_in z)) (is_coded (mask_in z)) (is_coded (fore_in z)) ≡ true
      picked =
          ap (λ (b : Bool). choice_ok b (is_coded (mask_in z)) (is_coded (fore_in z))) one.coded_is
          ∙ ap (λ (b : Bool). choice_ok (has_back z.fields.kind) b (is_coded (fore_in z))) two.coded_is
          ∙ ap (λ (b : Bool). choice_ok (has_back z.fields.kind) (has_mask z.fields.kind) b) three.coded_is
          ∙ choice z.fields.kind z.good.kind

  first_is : after st (back_in z) ≡ st1
  unfolding st1
  first_is = after_is_1 st (back_in z) one.layer_is

  second_is : after st1 (mask_in z) ≡ st2
  unfolding st2 mask_record
  second_is = after_is_2 st1 (mask_in z) refl

  st3 : State
  st3 = after3 st2 (fore_in z)

  ran : run st ((back_in z) ∷ (mask_in z) ∷ (fore_in z) ∷ []) ≡ Some st3
  unfolding run on_step st3
  ran =
      let e1 : step_of st (back_in z) ≡ Some st1 = step_next st (back_in z) new1 ∙ ap Some first_is in
      let e2 : step_of st1 (mask_in z) ≡ Some st2 = step_next st1 (mask_in z) new2 ∙ ap Some second_is in
      let e3 : step_of st2 (fore_in z) ≡ Some (after3 st2 (fore_in z)) = step_next st2 (fore_in z) new3 ∙ ap Some (after_is_3 st2 (fore_in z) three.layer_is) in
      ap (λ (x : Option State). on_step x None (λ (t : State). run t ((mask_in z) ∷ (fore_in z) ∷ []))) e1
      ∙ ap (λ (x : Option State). on_step x None (λ (t : State). run t ((fore_in z) ∷ []))) e2
      ∙ ap (λ (x : Option State). on_step x None (λ (t : State). run t [])) e3

  pub stripe_ran : Ran hd.main hd.width k left height st rs
  unfolding st3 st2 st1 after3 after2 after1 mask_record
  stripe_ran =
      let si = three.stripe_is in
      let li = three.layer_is in
      let h = z.tall in
      let ll = rdy.left_is in
      record {
        t = st3;
        went = ap (run st) z.records ∙ ran;
        ready = record { place = inr (omega arith, (omega arith, omega arith), refl, refl); left_is = omega arith };
      }
