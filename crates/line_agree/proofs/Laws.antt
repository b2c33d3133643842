-- One law for each way out of what two samples agree on: its premises are what is known there.
-- Assumes nothing.
use mathlib.Core.Path.{◌≡◌, refl, sym, ◌∙◌}
use mathlib.Core.Bool.{Bool, true, false, ◌&&◌}
use lib.Dec.{eqb}
use borrow.Author.Rules.{rules}
use Rattle.std.specs.Prelude.{Option, Some, None}
use Rattle.sheet_rules.specs.declared.Colour.{Colour}
use Rattle.sheet_rules.specs.contracts.ColourPartialEq.TheImpl.{ghosts}
use Rattle.pixel_rules.specs.Decide.{same_colour, agree}

grouped : (a b c : Bool) → a && (b && c) ≡ a && b && c
grouped true b c = refl
grouped false b c = refl

-- the derived test of two colours
pub same_test : (c e : Colour) → ghosts.eq c e ≡ same_colour c e
unfolding same_colour
same_test c e = grouped (eqb c.c0 e.c0) (eqb c.c1 e.c1) (eqb c.c2 e.c2)

module _ (low up : Option Colour) where
  pub agree_same : (c e : Colour) (b : Bool) → low ≡ Some c → up ≡ Some e → b ≡ ghosts.eq c e → b ≡ true → Some c ≡ agree low up
  unfolding agree
  agree_same c e b p q h t = let s : same_colour c e ≡ true = sym (same_test c e) ∙ sym h ∙ t in rw (p, q, s) refl

  pub agree_other : (c e : Colour) (b : Bool) → low ≡ Some c → up ≡ Some e → b ≡ ghosts.eq c e → b ≡ false → None ≡ agree low up
  unfolding agree
  agree_other c e b p q h t = let s : same_colour c e ≡ false = sym (same_test c e) ∙ sym h ∙ t in rw (p, q, s) refl

  pub agree_up : (c : Colour) → low ≡ Some c → up ≡ None → None ≡ agree low up
  unfolding agree
  agree_up c p q = rw (p, q) refl

  pub agree_low : low ≡ None → None ≡ agree low up
  unfolding agree
  agree_low p = rw p refl

pub ruleset agreeing = (rules, agree_same, agree_other, agree_up, agree_low)
