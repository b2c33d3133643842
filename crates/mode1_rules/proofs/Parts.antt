-- The parts of a stripe: its three records, and where its layers' octets stand.
--
--   back_in z, mask_in z, fore_in z   the records of a stripe's layers 1, 2 and 3
--
-- Assumes nothing.
use Prim.Native.Nat.{ℕ, ◌+◌}
use native.Mathlib.Omega.{arith}
use mathlib.Core.Path.{◌≡◌, refl, sym, ap, subst, ◌∙◌}
use mathlib.Core.Logic.{⊎_elim}
use mathlib.Core.Bool.{Bool, true, false, cond}
use mathlib.Core.List.Memᴰ
use mathlib.Core.List.{List, [], ◌∷◌, ◌++◌, append_assoc}
use lib.ListN.{length, take, drop, length-append}
use lib.Seq.{take_at}
use Rattle.octets.proofs.Laws.{drop_next}
use Rattle.sheet_rules.specs.declared.Colour.{Colour}
use Rattle.sheet_rules.specs.declared.Record.{Record}
use Rattle.sheet_rules.specs.Sentences.{Among}
use Rattle.start_rules.specs.declared.Head.{Head}
use Rattle.std.specs.Prelude.{Option, Some, None}
use Rattle.mode1_rules.specs.declared.LayerData.{LayerData}
use Rattle.mode1_rules.specs.Kinds.{stripe_body, has_mask, image_record, mask_record}
use Rattle.mode1_rules.specs.Grammar.{fields_of, Image, there, absent, Stripe}
use Rattle.mode1_rules.proofs.Tables.{length_fields}

-- ---- what a record names

pub image_place : (hd : Head) (k l : ℕ) (base : Colour) (x y : ℕ) (c : Option LayerData)
    → ((image_record hd k l base x y c).stripe ≡ k) × ((image_record hd k l base x y c).layer ≡ l)
unfolding image_record
image_place hd k l base x y (Some w) = (refl, refl)
image_place hd k l base x y None = (refl, refl)

image_at_lem : (hd : Head) (s : List ℕ) (k l at : ℕ) (base : Colour) (x y : ℕ) (b : Bool) (o more : List ℕ) (c : Option LayerData) → Image hd.main at b o c → drop at s ≡ o ++ more
    → take (image_record hd k l base x y c).len (drop (image_record hd k l base x y c).start s) ≡ o
unfolding image_record
image_at_lem hd s k l at base x y b o more c (there z) e = ap (take (length o)) e ∙ take_at o more (length o) refl
image_at_lem hd s k l at base x y b o more c absent e = refl

no_octets : (o : List ℕ) → length o ≡ 0 → [] ≡ o
no_octets [] e = refl
no_octets (x ∷ o) e = absurd (omega arith)

mask_at_lem : (s : List ℕ) (at n : ℕ) (b : Bool) (o more : List ℕ) → length o ≡ n → (b ≡ false → n ≡ 0) → drop at s ≡ o ++ more → take n (drop (cond b at 0) s) ≡ o
mask_at_lem s at n true o more l z e = ap (take n) e ∙ take_at o more n l
mask_at_lem s at n false o more l z e = ap (λ (j : ℕ). take j s) (z refl) ∙ no_octets o (l ∙ z refl)

-- ---- a stripe

module _ {hd : Head} {k left at : ℕ} {l : List ℕ} {height : ℕ} {rs : List Record} (z : Stripe hd k left at l height rs) where
  abbrev pub back_in : Record
  back_in = image_record hd k 1 z.fields.back z.fields.back_x z.fields.back_y z.back_is

  abbrev pub mask_in : Record
  mask_in = mask_record hd k z.fields.height (cond (has_mask z.fields.kind) hd.mask 0) (cond (has_mask z.fields.kind) (at + stripe_body) 0) z.fields.mask_length

  abbrev pub fore_in : Record
  fore_in = image_record hd k 3 z.fields.fore z.fields.fore_x z.fields.fore_y z.fore_is

  -- what holds of the three holds of each
  pub stripe_each : (P : Record → Type 0) → P back_in → P mask_in → P fore_in → (r : Record) → Among r rs → P r
  stripe_each P p1 p2 p3 r m =
      ⊎_elim (λ (y : r ≡ back_in). subst P (sym y) p1)
      (λ m2.
      ⊎_elim (λ (y : r ≡ mask_in). subst P (sym y) p2)
      (λ m3. ⊎_elim (λ (y : r ≡ fore_in). subst P (sym y) p3) (λ m4. absurd (Memᴰ.not-nil m4)) (Memᴰ.cases_cons m3))
      (Memᴰ.cases_cons m2))
      (Memᴰ.cases_cons (subst (λ (x : List Record). Among r x) z.records m))

  pub stripe_length : length l ≡ stripe_body + length z.mask + length z.back + length z.fore
  stripe_length =
      let a = ap length z.octets in
      let b = length-append (fields_of z.fields) (z.mask ++ (z.back ++ z.fore)) in
      let c = length-append z.mask (z.back ++ z.fore) in
      let d = length-append z.back z.fore in
      let e = length_fields z.fields in
      omega arith

  module _ (s tail : List ℕ) (e : drop at s ≡ l ++ tail) where
    at_mask : drop (at + stripe_body) s ≡ z.mask ++ (z.back ++ (z.fore ++ tail))
    at_mask =
        ap (λ (j : ℕ). drop (at + j) s) (sym (length_fields z.fields))
        ∙ drop_next s (fields_of z.fields) (z.mask ++ (z.back ++ (z.fore ++ tail))) at (e ∙ ap (λ (x : List ℕ). x ++ tail) z.octets ∙ simp append_assoc)

    pub at_back : drop (at + stripe_body + length z.mask) s ≡ z.back ++ (z.fore ++ tail)
    at_back = drop_next s z.mask (z.back ++ (z.fore ++ tail)) (at + stripe_body) at_mask

    pub at_fore : drop (at + stripe_body + length z.mask + length z.back) s ≡ z.fore ++ tail
    at_fore = drop_next s z.back (z.fore ++ tail) (at + stripe_body + length z.mask) at_back

    -- each record names its layer's octets
    pub back_octets_lem : take back_in.len (drop back_in.start s) ≡ z.back
    back_octets_lem =
        image_at_lem hd s k 1 (at + stripe_body + length z.mask) z.fields.back z.fields.back_x z.fields.back_y _ z.back (z.fore ++ tail) z.back_is z.back_there at_back

    pub mask_octets : take mask_in.len (drop mask_in.start s) ≡ z.mask
    unfolding mask_record
    mask_octets = mask_at_lem s (at + stripe_body) z.fields.mask_length (has_mask z.fields.kind) z.mask (z.back ++ (z.fore ++ tail)) z.size z.good.mask.1 at_mask

    pub fore_octets_lem : take fore_in.len (drop fore_in.start s) ≡ z.fore
    fore_octets_lem =
        image_at_lem hd s k 3 (at + stripe_body + length z.mask + length z.back) z.fields.fore z.fields.fore_x z.fields.fore_y _ z.fore tail z.fore_is z.fore_there at_fore
