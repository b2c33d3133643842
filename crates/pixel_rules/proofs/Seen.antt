-- Demand 3 at a pixel: it is known in a colour exactly if every possible content gives that colour, and unknown exactly if two of them differ.
-- Of what an unread image layer can hold, only this is used: two colours at least.
-- Assumes nothing.
use Prim.Native.Nat.{ℕ, zero, suc, ◌+◌, ◌*◌, ◌<◌}
use native.Mathlib.Omega.{arith}
use mathlib.Core.Path.{◌≡◌, refl, sym, ap, subst, ◌∙◌}
use mathlib.Core.Logic.{◌↔◌}
use mathlib.Core.Bool.{Bool, true, false, cond}
use lib.Dec.{eqb, lit<}
use borrow.Author.Tests.{eq-eqb, ne_eqb}
use Rattle.laws.proofs.Cases.{clash}
use Rattle.pixel_rules.specs.declared.MainPos.{MainPos}
use Rattle.sheet_rules.specs.declared.Colour.{Colour}
use Rattle.sheet_rules.specs.declared.Record.{Record}
use Rattle.sheet_rules.specs.Record.{is_grey}
use Rattle.std.specs.Prelude.{Option, Some, None}
use Rattle.pixel_rules.specs.declared.Mask.{Mask}
use Rattle.pixel_rules.specs.declared.Mask.TheVariants.{Zero, One, Hidden}
use Rattle.pixel_rules.specs.Place.{along_of, down_of}
use Rattle.pixel_rules.specs.Samples.{Scene, record_of, main_of, grey_of, mask_at, image_at, pairs_of}
use Rattle.pixel_rules.specs.Decide.{same_colour, agree, pair_step, Stack, decide, pixel_at}
use Rattle.pixel_rules.specs.Content.{Content, CanHold, shade, three, Within, mask_with, image_with, colour_from, colour_under, SeenAs}
use Rattle.pixel_rules.proofs.Rule.{same_true, same_false}

-- every content whose colours are of this kind gives the colour
abbrev pub SeenAsIn : (ℕ → Colour → Type 0) → Scene → MainPos → MainPos → Colour → Type 0
SeenAsIn Can v x y c = (w : Content) → Within Can w → colour_under v w x y ≡ c

-- two contents that give different colours
pub record DifferIn (Can : ℕ → Colour → Type 0) (v : Scene) (x y : MainPos) : Type 0 where
  pub one : Content
  pub other : Content
  pub one_can : Within Can one
  pub other_can : Within Can other
  pub apart : colour_under v one x y ≡ colour_under v other x y → ⊥

-- ---- the rule never says what a content denies

-- d is what the sample says, if it says anything
abbrev pub Allows : Option Colour → Colour → Type 0
Allows (Some c) d = d ≡ c
Allows None d = Unit

allows_image : (s : Option Colour) (d : Colour) → Allows s (image_with s d)
allows_image (Some c) d = refl
allows_image None d = tt

allows_same : (t : Bool) (c d : Colour) → (t ≡ true → c ≡ d) → (b : Bool) (x y : Colour) → x ≡ c → y ≡ d → Allows (cond t (Some c) None) (cond b y x)
allows_same false c d h b x y p q = tt
allows_same true c d h false x y p q = p
allows_same true c d h true x y p q = q ∙ sym (h refl)

allows_agree : (low up : Option Colour) (b : Bool) (x y : Colour) → Allows low x → Allows up y → Allows (agree low up) (cond b y x)
unfolding agree
allows_agree (Some c) (Some d) b x y p q = allows_same (same_colour c d) c d (same_true c d) b x y p q
allows_agree (Some c) None b x y p q = tt
allows_agree None up b x y p q = tt

allows_step : (m : Mask) (low up : Option Colour) (b : Bool) (x y : Colour) → Allows low x → Allows up y → Allows (pair_step m low up) (cond (mask_with m b) y x)
unfolding pair_step
allows_step Zero low up b x y p q = p
allows_step One low up b x y p q = q
allows_step Hidden low up b x y p q = allows_agree low up b x y p q

-- a pixel's samples by layer, and a value for each layer
module _ (masks : ℕ → Mask) (images : ℕ → Option Colour) where
  abbrev stack : Stack
  stack = record { mask = λ k. masks (k * 2); image = λ k. images (k * 2 + 1) }

  abbrev under : (ℕ → Bool) → (ℕ → Colour) → ℕ → Colour
  under bit colour n = colour_from (λ l. mask_with (masks l) (bit l)) (λ l. image_with (images l) (colour l)) n

  allows : (bit : ℕ → Bool) (colour : ℕ → Colour) (n : ℕ) → Allows (decide stack n) (under bit colour n)
  unfolding decide colour_from
  allows bit colour zero = allows_image (images 1) (colour 1)
  allows bit colour (suc n) =
      allows_step (masks (suc n * 2)) (decide stack n) (images (suc n * 2 + 1)) (bit (suc n * 2)) (under bit colour n) (image_with (images (suc n * 2 + 1)) (colour (suc n * 2 + 1)))
      (allows bit colour n)
      (allows_image (images (suc n * 2 + 1)) (colour (suc n * 2 + 1)))

  -- one more pair, whose mask has bit b
  further : (bit : ℕ → Bool) (colour : ℕ → Colour) (n : ℕ) (b : Bool) → mask_with (masks (suc n * 2)) (bit (suc n * 2)) ≡ b
      → under bit colour (suc n) ≡ cond b (image_with (images (suc n * 2 + 1)) (colour (suc n * 2 + 1))) (under bit colour n)
  unfolding colour_from
  further bit colour n b e = rw e

  -- a mask with bit 1 shows the image layer above
  shown : (bit : ℕ → Bool) (colour : ℕ → Colour) (n : ℕ) (up : Option Colour) → mask_with (masks (suc n * 2)) (bit (suc n * 2)) ≡ true → images (suc n * 2 + 1) ≡ up
      → under bit colour (suc n) ≡ image_with up (colour (suc n * 2 + 1))
  shown bit colour n up h e = rw (further bit colour n true h, e)

  -- a mask with bit 0 shows what the rule says of what lies below
  beneath : (bit : ℕ → Bool) (colour : ℕ → Colour) (n : ℕ) (a : Colour) → mask_with (masks (suc n * 2)) (bit (suc n * 2)) ≡ false → decide stack n ≡ Some a
      → under bit colour (suc n) ≡ a
  beneath bit colour n a h e = further bit colour n false h ∙ (rw e at (allows bit colour n))

same_unknown : (t : Bool) (a : Colour) → cond t (Some a) None ≡ None → t ≡ false
same_unknown false a e = refl
same_unknown true a e = clash cc

-- ---- where the rule says nothing, two contents differ

-- values of this kind, whose bits are 0 above pair n
record Low (Can : ℕ → Colour → Type 0) (n : ℕ) : Type 0 where
  bit : ℕ → Bool
  colour : ℕ → Colour
  can : (l : ℕ) → Can l (colour l)
  low : (k : ℕ) → n < k → bit (k * 2) ≡ false

module _ (Can : ℕ → Colour → Type 0) where
  abbrev higher : (n : ℕ) → Low Can n → Low Can (suc n)
  higher n w = record { bit = w.bit; colour = w.colour; can = w.can; low = λ k h. w.low k (omega arith) }

  -- every mask 0
  abbrev still : (n : ℕ) (x : ℕ → Colour) → ((l : ℕ) → Can l (x l)) → Low Can n
  still n x can = record { bit = λ l. false; colour = x; can = can; low = λ k h. refl }

  -- the mask of pair n is 1, every other is 0
  abbrev spot : (n : ℕ) (x : ℕ → Colour) → ((l : ℕ) → Can l (x l)) → Low Can n
  spot n x can = record { bit = λ l. eqb l (n * 2); colour = x; can = can; low = λ k h. ne_eqb (k * 2) (n * 2) (λ e. omega arith) }

record Two (Can : ℕ → Colour → Type 0) (masks : ℕ → Mask) (images : ℕ → Option Colour) (n : ℕ) : Type 0 where
  v : Low Can n
  w : Low Can n
  apart : under masks images v.bit v.colour n ≡ under masks images w.bit w.colour n → ⊥

module _ (Can : ℕ → Colour → Type 0) (x y : ℕ → Colour) (can_x : (l : ℕ) → Can l (x l)) (can_y : (l : ℕ) → Can l (y l)) (x≢y : (l : ℕ) → x l ≡ y l → ⊥) where
  module _ (masks : ℕ → Mask) (images : ℕ → Option Colour) where
    keep : (n : ℕ) → Two Can masks images n → ((b : Bool) → b ≡ false → mask_with (masks (suc n * 2)) b ≡ false) → Two Can masks images (suc n)
    keep n t h =
        record {
          v = higher Can n t.v;
          w = higher Can n t.w;
          apart = λ e. t.apart (cc (further masks images t.v.bit t.v.colour n false (h _ (t.v.low (suc n) (omega arith))), further masks images t.w.bit t.w.colour n false (h _ (t.w.low (suc n) (omega arith)))));
        }

    on : (n : ℕ) → mask_with (masks (suc n * 2)) true ≡ true → mask_with (masks (suc n * 2)) (eqb (suc n * 2) (suc n * 2)) ≡ true
    on n h = rw (eq-eqb (suc n * 2) (suc n * 2) refl) h

    -- the image layer above is unknown, and can be taken
    taken : (n : ℕ) → images (suc n * 2 + 1) ≡ None → mask_with (masks (suc n * 2)) true ≡ true → Two Can masks images (suc n)
    taken n e h =
        let a = spot Can (suc n) x can_x in
        let b = spot Can (suc n) y can_y in
        record {
          v = a;
          w = b;
          apart = λ q. x≢y (suc n * 2 + 1) (sym (shown masks images a.bit a.colour n None (on n h) e) ∙ q ∙ shown masks images b.bit b.colour n None (on n h) e);
        }

    -- the two sides are known, and differ
    sides : (n : ℕ) (a d : Colour) → masks (suc n * 2) ≡ Hidden → decide (stack masks images) n ≡ Some a → images (suc n * 2 + 1) ≡ Some d → same_colour a d ≡ false
        → Two Can masks images (suc n)
    sides n a d em el eu f =
        let p = still Can (suc n) x can_x in
        let q = spot Can (suc n) x can_x in
        record {
          v = p;
          w = q;
          apart = λ e. same_false a d f (sym (beneath masks images p.bit p.colour n a (rw em) el) ∙ e ∙ shown masks images q.bit q.colour n (Some d) (on n (rw em)) eu);
        }

    step : (n : ℕ) (m : Mask) (low up : Option Colour) → masks (suc n * 2) ≡ m → decide (stack masks images) n ≡ low → images (suc n * 2 + 1) ≡ up
        → pair_step m low up ≡ None → (low ≡ None → Two Can masks images n) → Two Can masks images (suc n)
    unfolding pair_step agree
    step n Zero low up em el eu e ih = keep n (ih e) (λ b h. rw em)
    step n One low up em el eu e ih = taken n (eu ∙ e) (rw em)
    step n Hidden None up em el eu e ih = keep n (ih refl) (λ b h. rw em h)
    step n Hidden (Some a) None em el eu e ih = taken n eu (rw em)
    step n Hidden (Some a) (Some d) em el eu e ih = sides n a d em el eu (same_unknown (same_colour a d) a e)

    two : (n : ℕ) → decide (stack masks images) n ≡ None → Two Can masks images n
    unfolding decide colour_from
    two zero e = record { v = still Can 0 x can_x; w = still Can 0 y can_y; apart = rw e (x≢y 1) }
    two (suc n) e = step n (masks (suc n * 2)) (decide (stack masks images) n) (images (suc n * 2 + 1)) refl refl refl e (two n)

  -- ---- the same at a place of a scene, for contents of the whole stripe

  -- the same value at every sample of a layer
  abbrev lifted : {n : ℕ} → Low Can n → Content
  lifted w = record { bit = λ l i j. w.bit l; colour = λ l i j. w.colour l }

  module _ (v : Scene) (p q : MainPos) where
    known_in : (c : Colour) → pixel_at v p q ≡ Some c → SeenAsIn Can v p q c
    unfolding pixel_at colour_under
    known_in c e w can =
        subst (λ (r : Option Colour). Allows r (colour_under v w p q)) e
        (allows (λ l. mask_at v l p q) (λ l. image_at v l p q)
        (λ l. w.bit l (along_of (main_of v) (record_of v l) p) (down_of (main_of v) (record_of v l) q))
        (λ l. w.colour l (along_of (main_of v) (record_of v l) p) (down_of (main_of v) (record_of v l) q))
        (pairs_of v))

    unknown_two : pixel_at v p q ≡ None → DifferIn Can v p q
    unfolding pixel_at colour_under
    unknown_two e =
        let t = two (λ l. mask_at v l p q) (λ l. image_at v l p q) (pairs_of v) e in
        record {
          one = lifted t.v;
          other = lifted t.w;
          one_can = λ l i j. t.v.can l;
          other_can = λ l i j. t.w.can l;
          apart = t.apart;
        }

    seen_known : (c : Colour) → SeenAsIn Can v p q c → pixel_at v p q ≡ Some c
    seen_known c h = go (pixel_at v p q) refl
      where
        go : (r : Option Colour) → pixel_at v p q ≡ r → pixel_at v p q ≡ Some c
        go (Some d) e =
            let w = lifted (still Can 0 x can_x) in
            e ∙ ap Some (sym (known_in d e w (λ l i j. can_x l)) ∙ h w (λ l i j. can_x l))
        go None e =
            let t = unknown_two e in
            absurd (t.apart (h t.one t.one_can ∙ sym (h t.other t.other_can)))

    pub seen_in_lem : (c : Colour) → pixel_at v p q ≡ Some c ↔ SeenAsIn Can v p q c
    seen_in_lem c = (known_in c, seen_known c)

    pub unseen_in_lem : pixel_at v p q ≡ None ↔ ((c : Colour) → SeenAsIn Can v p q c → ⊥)
    unseen_in_lem = (λ e c h. let k = seen_known c h in clash cc, go (pixel_at v p q) refl)
      where
        go : (r : Option Colour) → pixel_at v p q ≡ r → ((c : Colour) → SeenAsIn Can v p q c → ⊥) → pixel_at v p q ≡ None
        go (Some d) e h = absurd (h d (known_in d e))
        go None e h = e

    pub differ_in : pixel_at v p q ≡ None ↔ DifferIn Can v p q
    differ_in = (unknown_two, go (pixel_at v p q) refl)
      where
        go : (r : Option Colour) → pixel_at v p q ≡ r → DifferIn Can v p q → pixel_at v p q ≡ None
        go (Some d) e t = absurd (t.apart (known_in d e t.one t.one_can ∙ sym (known_in d e t.other t.other_can)))
        go None e t = e

-- ---- the theorem: contents that the records allow

-- the two colours that every layer can hold
module _ (r : Record) where
  two_held : (n : ℕ) → n < 256 → CanHold r (grey_of n)
  two_held n h = go (is_grey r) refl
    where
      go : (b : Bool) → is_grey r ≡ b → CanHold r (grey_of n)
      go true e = shade e h
      go false e = three {c = grey_of n} e (record { c0 = h; c1 = lit< tt; c2 = lit< tt })

two_apart : grey_of 0 ≡ grey_of 255 → ⊥
two_apart e = let z : ◌≡◌ {A = ℕ} 0 255 = ap (λ (c : Colour). c.c0) e in omega arith

module _ (v : Scene) (x y : MainPos) where
  abbrev held : ℕ → Colour → Type 0
  held l c = CanHold (record_of v l) c

  dark : (l : ℕ) → held l (grey_of 0)
  dark l = two_held (record_of v l) 0 (lit< tt)

  light : (l : ℕ) → held l (grey_of 255)
  light l = two_held (record_of v l) 255 (lit< tt)

  -- known in colour c exactly if every possible content gives c
  pub seen_known_as : (c : Colour) → pixel_at v x y ≡ Some c ↔ SeenAs v x y c
  seen_known_as c = seen_in_lem held (λ l. grey_of 0) (λ l. grey_of 255) dark light (λ l. two_apart) v x y c

  -- unknown exactly if every possible content gives no one colour
  pub unseen_unknown : pixel_at v x y ≡ None ↔ ((c : Colour) → SeenAs v x y c → ⊥)
  unseen_unknown = unseen_in_lem held (λ l. grey_of 0) (λ l. grey_of 255) dark light (λ l. two_apart) v x y

  -- and exactly if two possible contents give different colours
  pub differ_unknown : pixel_at v x y ≡ None ↔ DifferIn held v x y
  differ_unknown = differ_in held (λ l. grey_of 0) (λ l. grey_of 255) dark light (λ l. two_apart) v x y
