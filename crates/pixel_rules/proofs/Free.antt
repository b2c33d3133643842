-- Contents are free (demand 3): at any sample of any layer any value that the layer can hold, said in numbers, and all other samples as they were; and
-- what a place shows of an unread layer is the content's value at the place's own sample, and at no other.
--
--   same_sample        two samples of two layers are one: the same layer, and the same place along and down
--   value_put          values by sample, with another one at one sample
--   Freed v w .. c    a possible content that has the colour c at one sample and is else as w; FreedBit: that has the bit b
-- Assumes nothing.
use Prim.Native.Nat.{ℕ, ◌-◌, ◌/◌}
use mathlib.Core.Path.{◌≡◌, refl, sym, ap, ap₂, subst}
use mathlib.Core.Bool.{Bool, true, ◌&&◌, cond}
use lib.Dec.{eqb}
use Rattle.laws.proofs.Cases.{cond_with}
use Rattle.laws.proofs.Says.{Says, says_eq, says_and, says_as, says_fails}
use Rattle.sheet_rules.specs.declared.Colour.{Colour}
use Rattle.sheet_rules.specs.Sentences.{Coded}
use Rattle.pixel_rules.specs.declared.MainPos.{MainPos}
use Rattle.pixel_rules.specs.declared.SamplePos.{SamplePos}
use Rattle.std.specs.Prelude.{None}
use Rattle.pixel_rules.specs.Place.{scale, inside}
use Rattle.pixel_rules.specs.Planes.{plane_start}
use Rattle.pixel_rules.specs.Samples.{Scene, record_of, main_of}
use Rattle.pixel_rules.specs.Content.{Content, CanHold, Possible, mask_under, image_under}
use Rattle.pixel_rules.proofs.Places.{image_unread, mask_unread}

-- ---- the statements

pub record Freed (v : Scene) (w : Content) (l : ℕ) (i j : SamplePos) (c : Colour) : Type 0 where
  pub content : Content
  pub possible : Possible v content
  pub here : content.colour l i j ≡ c
  pub elsewhere : (m : ℕ) (p q : SamplePos) → ((m ≡ l) × (p ≡ i) × (q ≡ j) → ⊥) → content.colour m p q ≡ w.colour m p q
  pub bits : (m : ℕ) (p q : SamplePos) → content.bit m p q ≡ w.bit m p q

pub record FreedBit (v : Scene) (w : Content) (l : ℕ) (i j : SamplePos) (b : Bool) : Type 0 where
  pub content : Content
  pub possible : Possible v content
  pub here : content.bit l i j ≡ b
  pub elsewhere : (m : ℕ) (p q : SamplePos) → ((m ≡ l) × (p ≡ i) × (q ≡ j) → ⊥) → content.bit m p q ≡ w.bit m p q
  pub colours : (m : ℕ) (p q : SamplePos) → content.colour m p q ≡ w.colour m p q

-- ---- one value at one sample

abbrev same_sample : ℕ → SamplePos → SamplePos → ℕ → SamplePos → SamplePos → Bool
same_sample l i j m p q = eqb m l && (eqb p.0 i.0 && eqb q.0 j.0)

says_place : (p i : SamplePos) → Says (eqb p.0 i.0) (p ≡ i)
says_place p i = says_as (says_eq p.0 i.0) (λ e t. record { 0 = e t }) (λ e. ap (λ (z : SamplePos). z.0) e)

module _ (l : ℕ) (i j : SamplePos) where
  says_sample : (m : ℕ) (p q : SamplePos) → Says (same_sample l i j m p q) ((m ≡ l) × (p ≡ i) × (q ≡ j))
  says_sample m p q =
      says_as (says_and (says_eq m l) (says_and (says_place p i) (says_place q j))) (λ k. (k.0, k.1.0, k.1.1)) (λ k. (k.0, (k.1, k.2)))

  module _ {A : Type 0} (f : ℕ → SamplePos → SamplePos → A) (a : A) where
    abbrev value_put : ℕ → SamplePos → SamplePos → A
    value_put m p q = cond (same_sample l i j m p q) a (f m p q)

    put_here : value_put l i j ≡ a
    put_here = ap (λ (t : Bool). cond t a (f l i j)) ((says_sample l i j).shown (refl, refl, refl))

    put_elsewhere : (m : ℕ) (p q : SamplePos) → ((m ≡ l) × (p ≡ i) × (q ≡ j) → ⊥) → value_put m p q ≡ f m p q
    put_elsewhere m p q h = ap (λ (t : Bool). cond t a (f m p q)) (says_fails (says_sample m p q) h)

-- ---- any value that the layer can hold

module _ (v : Scene) (w : Content) (ok : Possible v w) (l : ℕ) (i j : SamplePos) where
  pub held_free : (c : Colour) → CanHold (record_of v l) c → Freed v w l i j c
  held_free c h =
      record {
        content = record { bit = w.bit; colour = value_put l i j w.colour c };
        possible = λ m p q.
            cond_with (CanHold (record_of v m)) (same_sample l i j m p q)
            (λ t. subst (λ (n : ℕ). CanHold (record_of v n) c) (sym ((says_sample l i j m p q).told t).0) h)
            (λ t. ok m p q);
        here = put_here l i j w.colour c;
        elsewhere = put_elsewhere l i j w.colour c;
        bits = λ m p q. refl;
      }

  -- both values of a mask
  pub bit_free : (b : Bool) → FreedBit v w l i j b
  bit_free b =
      record {
        content = record { bit = value_put l i j w.bit b; colour = w.colour };
        possible = ok;
        here = put_here l i j w.bit b;
        elsewhere = put_elsewhere l i j w.bit b;
        colours = λ m p q. refl;
      }

-- ---- at a place of an unread layer's area: the content at the place's sample (i, j), which is told in numbers

module _ (v : Scene) (w : Content) (l : ℕ) (x y : MainPos) (h : Coded (record_of v l)) (o : inside (main_of v) (record_of v l) x y ≡ true)
    (e : plane_start v.planes l ≡ None) where
  module _ (i j : SamplePos) (along : i.0 ≡ (x.0 - (record_of v l).x) / (main_of v / (record_of v l).res))
      (down : j.0 ≡ (y.0 - (record_of v l).y) / (main_of v / (record_of v l).res)) where
    pub image_open : image_under v w l x y ≡ w.colour l i j
    unfolding scale
    image_open = rw (image_unread v l x y h o e) (sym (ap₂ (λ (p q : SamplePos). w.colour l p q) (λ t. record { 0 = along t }) (λ t. record { 0 = down t })))

    pub mask_open : mask_under v w l x y ≡ w.bit l i j
    unfolding scale
    mask_open = rw (mask_unread v l x y h o e) (sym (ap₂ (λ (p q : SamplePos). w.bit l p q) (λ t. record { 0 = along t }) (λ t. record { 0 = down t })))
