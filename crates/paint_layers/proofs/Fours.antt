-- The four octets of a sample, and what two pixels agree on: it is what their samples do.
-- Assumes nothing.
use Prim.Native.Nat.{ℕ}
use mathlib.Core.Path.{◌≡◌, refl, sym, ap, ◌∙◌}
use mathlib.Core.Bool.{Bool, true, false, ◌&&◌, cond}
use mathlib.Core.List.{List}
use lib.Dec.{eqb}
use Rattle.laws.proofs.Says.{says_eq, says_and}
use Rattle.sheet_rules.specs.declared.Colour.{Colour}
use Rattle.std.specs.Prelude.{Option, Some, None}
use Rattle.pixel_rules.specs.Decide.{same_colour, agree}
use Rattle.picture_rules.specs.Line.{four_of}
use Rattle.paint_image.specs.Image.{shown_four}
use Rattle.paint_layer.specs.Layer.{same_four, agreed}

pub shown_is : (u : Colour) (un : List ℕ) (p : Option Colour) → un ≡ four_of u None → shown_four un p ≡ four_of u p
unfolding shown_four four_of
shown_is u un (Some c) e = refl
shown_is u un None e = e

and-false : (b : Bool) → (b && false) ≡ false
and-false true = refl
and-false false = refl

and-true : (b : Bool) → (b && true) ≡ b
and-true true = refl
and-true false = refl

same_both : (c e : Colour) → same_colour c e ≡ true → c ≡ e
unfolding same_colour
same_both c e z =
    let h = (says_and (says_and (says_eq c.c0 e.c0) (says_eq c.c1 e.c1)) (says_eq c.c2 e.c2)).told z in
    λ i. record { c0 = h.0.0 i; c1 = h.0.1 i; c2 = h.1 i }

-- what two pixels agree on is what their samples do
pub agreed_four : (u : Colour) (p q : Option Colour) → agreed (four_of u q) (four_of u None) (four_of u p) ≡ four_of u (agree p q)
unfolding agreed same_four four_of agree same_colour
agreed_four u (Some c) (Some e) =
    ap (λ (b : Bool). cond b (four_of u (Some e)) (four_of u None)) (and-true (same_colour c e)) ∙ by (same_colour c e) refl
  where
    by : (b : Bool) → same_colour c e ≡ b → cond b (four_of u (Some e)) (four_of u None) ≡ four_of u (cond b (Some c) None)
    by true z = ap (λ (o : Colour). four_of u (Some o)) (sym (same_both c e z))
    by false z = refl
agreed_four u (Some c) None = rw (and-false (eqb c.c0 u.c0 && eqb c.c1 u.c1 && eqb c.c2 u.c2)) refl
agreed_four u None (Some e) = rw (and-false (eqb u.c0 e.c0 && eqb u.c1 e.c1 && eqb u.c2 e.c2)) refl
agreed_four u None None = by (same_four (four_of u None) (four_of u None))
  where
    by : (b : Bool) → cond b (four_of u None) (four_of u None) ≡ four_of u None
    by true = refl
    by false = refl
