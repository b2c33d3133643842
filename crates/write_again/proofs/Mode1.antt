-- A page's Mode 1 stripe, lent to the writer with its records: what they say of themselves, how many octets they are, and that they are written as they
-- were.
-- Assumes nothing.
use Prim.Native.Nat.{ℕ, ◌+◌, ◌≤◌, ◌<◌}
use native.Mathlib.Omega.{arith}
use mathlib.Core.Path.{◌≡◌, refl, sym, ap, subst, ◌∙◌}
use mathlib.Core.Logic.{inl, inr, ◌≢◌, ⊎_elim}
use mathlib.Core.Bool.{Bool, true, false, not, cond}
use mathlib.Core.List.Memᴰ
use mathlib.Core.List.{List, [], ◌∷◌, ◌++◌}
use lib.ListN.{length, drop}
use borrow.Author.Tests.{eq-eqb, ne_eqb}
use Rattle.segment_rules.specs.declared.Mode.TheVariants.{One}
use Rattle.sheet_rules.specs.declared.Colour.{Colour}
use Rattle.sheet_rules.specs.declared.Record.{Record}
use Rattle.sheet_rules.specs.Record.{nth, sum_of}
use Rattle.sheet_rules.specs.Judge.{coded}
use Rattle.sheet_rules.specs.Sentences.{Among, Coded}
use Rattle.start_rules.specs.declared.Head.{Head}
use Rattle.std.specs.Prelude.{Option}
use Rattle.mode1_rules.specs.declared.LayerData.{LayerData}
use Rattle.mode1_rules.specs.Kinds.{stripe_body, has_back, has_mask, has_fore, image_record, mask_record}
use Rattle.mode1_rules.specs.declared.Fields.{Fields}
use Rattle.mode1_rules.specs.Grammar.{fields_of, TypeOf, Image, there, absent, Stripe}
use Rattle.mode1_rules.proofs.Parts.{back_in, mask_in, fore_in, stripe_each, stripe_length, image_place, back_octets_lem, mask_octets, fore_octets_lem}
use Rattle.write_rules.specs.Layer.{layer_octets}
use Rattle.write_rules.specs.Cut.{Opened}
use Rattle.write_rules.specs.Mode1.{type_by, colour_by, fields_by, rest1, Trimmed}
use Rattle.segment_rules.specs.Rules.{most_layers}
use Rattle.write_rules.proofs.Passed.{size_in}
use Rattle.write_rules.proofs.Mode1.{head_first, head_other}

-- ---- what a page's record says of itself

pub record Lent (hd : Head) (r : Record) : Type 0 where
  pub low : r.layer ≤ most_layers One
  pub mask : Coded r → r.layer ≡ 2 → r.coder ≡ hd.mask
  pub image : Coded r → r.layer ≢ 2 → hd.image ≢ 0
  pub base : (r.base0 < 256) × (r.base1 < 256) × (r.base2 < 256)
  pub offset : (r.x ≤ 65535) × (r.y ≤ 65535)

image_lent : (hd : Head) (k l at : ℕ) (base : Colour) (x y : ℕ) (b : Bool) (o : List ℕ) (c : Option LayerData) → Image hd.main at b o c → l ≤ 3 → l ≢ 2 → (b ≡ true → hd.image ≢ 0)
    → (base.c0 < 256) × (base.c1 < 256) × (base.c2 < 256) → (b ≡ true → (x ≤ 65535) × (y ≤ 65535)) → Lent hd (image_record hd k l base x y c)
unfolding image_record
image_lent hd k l at base x y b o c (there z) low n i w f =
    record { low = low; mask = λ d e. absurd (n e); image = λ d e. i refl; base = w; offset = f refl }
image_lent hd k l at base x y b o c absent low n i w f =
    record { low = low; mask = λ d e. absurd (n e); image = λ d e. absurd (d refl); base = w; offset = (omega arith, omega arith) }

mask_lent : (hd : Head) (k height at n : ℕ) (b : Bool) → (b ≡ false → n ≡ 0) → Lent hd (mask_record hd k height (cond b hd.mask 0) (cond b at 0) n)
unfolding mask_record
mask_lent hd k height at n true z =
    record { low = omega arith; mask = λ d e. refl; image = λ d e. absurd (e refl); base = (omega arith, omega arith, omega arith); offset = (omega arith, omega arith) }
mask_lent hd k height at n false z =
    record { low = omega arith; mask = λ d e. absurd (d (z refl)); image = λ d e. absurd (e refl); base = (omega arith, omega arith, omega arith); offset = (omega arith, omega arith) }

pub stripe_lent : {hd : Head} {k left at : ℕ} {l : List ℕ} {height : ℕ} {rs : List Record} → Stripe hd k left at l height rs → (r : Record) → Among r rs → Lent hd r
stripe_lent {hd} {k} {left} {at} z =
    let f = z.fields in
    let g = z.good in
    let w = z.widths in
    stripe_each z (Lent hd)
    (image_lent hd k 1 (at + stripe_body + length z.mask) f.back f.back_x f.back_y (has_back f.kind) z.back z.back_is z.back_there (omega arith) (λ e. omega arith)
    (λ e. g.image_coder (inl e)) w.back g.back)
    (mask_lent hd k f.height (at + stripe_body) f.mask_length (has_mask f.kind) g.mask.1)
    (image_lent hd k 3 (at + stripe_body + length z.mask + length z.back) f.fore f.fore_x f.fore_y (has_fore f.kind) z.fore z.fore_is z.fore_there (omega arith)
    (λ e. omega arith) (λ e. g.image_coder (inr e)) w.fore g.fore)

-- ---- the second record is layer 2: it has the page's main resolution and width

pub second_is : (hd : Head) (k left at : ℕ) (l : List ℕ) (height : ℕ) (rs sr : List Record) → Stripe hd k left at l height rs
    → ((nth (rs ++ sr) 1).res ≡ hd.main) × ((nth (rs ++ sr) 1).width ≡ hd.width)
unfolding mask_record
second_is hd k left at l height rs sr z =
    subst (λ (x : List Record). ((nth (x ++ sr) 1).res ≡ hd.main) × ((nth (x ++ sr) 1).width ≡ hd.width)) (sym z.records) (refl, refl)

-- ---- the first record is layer 1, and no other is

image_opening : (hd : Head) (k l : ℕ) (base : Colour) (x y : ℕ) (c : Option LayerData) → (image_record hd k l base x y c).layer ≡ l
image_opening hd k l base x y c = (image_place hd k l base x y c).1

pub stripe_opened : {hd : Head} {k left at : ℕ} {l : List ℕ} {height : ℕ} {rs : List Record} → Stripe hd k left at l height rs → Opened rs
unfolding mask_record
stripe_opened {hd} {k} z =
    let f = z.fields in
    let l1 = image_opening hd k 1 f.back f.back_x f.back_y z.back_is in
    let l3 = image_opening hd k 3 f.fore f.fore_x f.fore_y z.fore_is in
    record {
      first = back_in z;
      others = mask_in z ∷ fore_in z ∷ [];
      is = z.records;
      opening = l1;
      once = λ r m.
          ⊎_elim (λ (e : r ≡ mask_in z). subst (λ (x : Record). x.layer ≢ 1) (sym e) (λ w. omega arith))
          (λ m2.
          ⊎_elim (λ (e : r ≡ fore_in z). subst (λ (x : Record). x.layer ≢ 1) (sym e) (λ w. omega arith)) (λ m3. absurd (Memᴰ.not-nil m3)) (Memᴰ.cases_cons m2))
          (Memᴰ.cases_cons m);
    }

-- ---- what is read of an image layer and of a mask

coded_image : (hd : Head) (k l at : ℕ) (base : Colour) (x y : ℕ) (b : Bool) (o : List ℕ) (c : Option LayerData) → Image hd.main at b o c → coded (image_record hd k l base x y c) ≡ b
unfolding image_record
coded_image hd k l at base x y b o c (there z) = ap not (ne_eqb (length o) 0 (λ e. let a = ap length z.octets in omega arith))
coded_image hd k l at base x y b o c absent = refl

coded_mask : (hd : Head) (k height c at n : ℕ) (b : Bool) → (b ≡ true → n ≡ 0 → ⊥) × (b ≡ false → n ≡ 0) → coded (mask_record hd k height c at n) ≡ b
unfolding mask_record
coded_mask hd k height c at n true m = ap not (ne_eqb n 0 (m.0 refl))
coded_mask hd k height c at n false m = ap not (eq-eqb n 0 (m.1 refl))

-- ---- its octets are as many as the writer counts

image_size : (hd : Head) (k l at : ℕ) (base : Colour) (x y : ℕ) (b : Bool) (o : List ℕ) (c : Option LayerData) → Image hd.main at b o c → (image_record hd k l base x y c).len ≡ length o
unfolding image_record
image_size hd k l at base x y b o c (there z) = refl
image_size hd k l at base x y b o c absent = refl

pub stripe_size : (hd : Head) (k left at : ℕ) (l : List ℕ) (height : ℕ) (rs : List Record) → Stripe hd k left at l height rs → sum_of (size_in One) rs ≡ 8 + length l
unfolding sum_of mask_record
stripe_size hd k left at l height rs z =
    let f = z.fields in
    let l3 = (image_place hd k 3 f.fore f.fore_x f.fore_y z.fore_is).1 in
    let s1 = head_first (back_in z) (image_place hd k 1 f.back f.back_x f.back_y z.back_is).1 in
    let s2 = head_other (mask_in z) (λ e. omega arith) in
    let s3 = head_other (fore_in z) (λ e. omega arith) in
    let e1 = image_size hd k 1 (at + stripe_body + length z.mask) f.back f.back_x f.back_y (has_back f.kind) z.back z.back_is z.back_there in
    let e3 = image_size hd k 3 (at + stripe_body + length z.mask + length z.back) f.fore f.fore_x f.fore_y (has_fore f.kind) z.fore z.fore_is z.fore_there in
    let n = z.size in
    let a = stripe_length z in
    ap (sum_of (size_in One)) z.records ∙ omega arith

-- ---- it is written as it was

type_again : (t : ℕ) → TypeOf t → type_by (has_back t) (has_mask t) (has_fore t) ≡ t
type_again t (inl e) = subst (λ (t : ℕ). type_by (has_back t) (has_mask t) (has_fore t) ≡ t) (sym e) refl
type_again t (inr (inl e)) = subst (λ (t : ℕ). type_by (has_back t) (has_mask t) (has_fore t) ≡ t) (sym e) refl
type_again t (inr (inr (inl e))) = subst (λ (t : ℕ). type_by (has_back t) (has_mask t) (has_fore t) ≡ t) (sym e) refl
type_again t (inr (inr (inr (inl e)))) = subst (λ (t : ℕ). type_by (has_back t) (has_mask t) (has_fore t) ≡ t) (sym e) refl
type_again t (inr (inr (inr (inr (inl e))))) = subst (λ (t : ℕ). type_by (has_back t) (has_mask t) (has_fore t) ≡ t) (sym e) refl
type_again t (inr (inr (inr (inr (inr e))))) = subst (λ (t : ℕ). type_by (has_back t) (has_mask t) (has_fore t) ≡ t) (sym e) refl

-- the colour and the offsets of an image layer's record are the stripe's
image_again : (hd : Head) (k l at : ℕ) (base : Colour) (x y : ℕ) (b : Bool) (o : List ℕ) (c : Option LayerData) → Image hd.main at b o c → (b ≡ false → (x ≡ 0) × (y ≡ 0))
    → (colour_by (image_record hd k l base x y c) ≡ base) × ((image_record hd k l base x y c).x ≡ x) × ((image_record hd k l base x y c).y ≡ y)
unfolding image_record
image_again hd k l at base x y b o c (there z) f = (refl, refl, refl)
image_again hd k l at base x y b o c absent f = let g = f refl in (refl, sym g.0, sym g.1)

fields_same : (f g : Fields) → f.kind ≡ g.kind → f.back ≡ g.back → f.fore ≡ g.fore → f.back_x ≡ g.back_x → f.back_y ≡ g.back_y → f.fore_x ≡ g.fore_x → f.fore_y ≡ g.fore_y
    → f.height ≡ g.height → f.mask_length ≡ g.mask_length → f ≡ g
fields_same f g e1 e2 e3 e4 e5 e6 e7 e8 e9 = let all : whole f ≡ whole g = cc in all
  where
    whole : Fields → Fields
    whole f =
        record {
          kind = f.kind;
          back = f.back;
          fore = f.fore;
          back_x = f.back_x;
          back_y = f.back_y;
          fore_x = f.fore_x;
          fore_y = f.fore_y;
          height = f.height;
          mask_length = f.mask_length;
        }

module _ {hd : Head} {k left at : ℕ} {l : List ℕ} {height : ℕ} {rs : List Record} (z : Stripe hd k left at l height rs) (t : Trimmed z.fields) where
  fields_again : fields_by (back_in z) (mask_in z) (fore_in z) ≡ z.fields
  unfolding mask_record
  fields_again =
      let f = z.fields in
      let b =
      image_again hd k 1 (at + stripe_body + length z.mask) f.back f.back_x f.back_y (has_back f.kind) z.back z.back_is z.back_there t.back in
      let c =
      image_again hd k 3 (at + stripe_body + length z.mask + length z.back) f.fore f.fore_x f.fore_y (has_fore f.kind) z.fore z.fore_is z.fore_there t.fore in
      fields_same (fields_by (back_in z) (mask_in z) (fore_in z)) f type_is b.0 c.0 b.1 b.2 c.1 c.2 refl refl
    where
      type_is : type_by (coded (back_in z)) (coded (mask_in z)) (coded (fore_in z)) ≡ z.fields.kind
      type_is =
          let f = z.fields in
          ap (λ (b : Bool). type_by b (coded (mask_in z)) (coded (fore_in z)))
          (coded_image hd k 1 (at + stripe_body + length z.mask) f.back f.back_x f.back_y (has_back f.kind) z.back z.back_is z.back_there)
          ∙ ap (λ (b : Bool). type_by (has_back f.kind) b (coded (fore_in z)))
          (coded_mask hd k f.height (cond (has_mask f.kind) hd.mask 0) (cond (has_mask f.kind) (at + stripe_body) 0) f.mask_length (has_mask f.kind) z.good.mask)
          ∙ ap (λ (b : Bool). type_by (has_back f.kind) (has_mask f.kind) b)
          (coded_image hd k 3 (at + stripe_body + length z.mask + length z.back) f.fore f.fore_x f.fore_y (has_fore f.kind) z.fore z.fore_is z.fore_there)
          ∙ type_again f.kind z.good.kind

  three_again : (s tail : List ℕ) → drop at s ≡ l ++ tail → rest1 s (back_in z ∷ mask_in z ∷ fore_in z ∷ []) ≡ l
  unfolding rest1
  three_again s tail e =
      ap (λ (f : Fields). fields_of f ++ (layer_octets s (mask_in z) ++ (layer_octets s (back_in z) ++ layer_octets s (fore_in z)))) fields_again
      ∙ ap (λ (x : List ℕ). fields_of z.fields ++ (x ++ (layer_octets s (back_in z) ++ layer_octets s (fore_in z)))) (mask_octets z s tail e)
      ∙ ap (λ (x : List ℕ). fields_of z.fields ++ (z.mask ++ (x ++ layer_octets s (fore_in z)))) (back_octets_lem z s tail e)
      ∙ ap (λ (x : List ℕ). fields_of z.fields ++ (z.mask ++ (z.back ++ x))) (fore_octets_lem z s tail e)
      ∙ sym z.octets

  pub stripe_again : (s tail : List ℕ) → drop at s ≡ l ++ tail → rest1 s rs ≡ l
  stripe_again s tail e = ap (rest1 s) z.records ∙ three_again s tail e
