-- What a layer that was not read can hold, written out: by these two sentences of its own record, and by no other; so what a possible content is.
-- Assumes nothing.
use Prim.Native.Nat.{ℕ, ◌<◌}
use native.Mathlib.Omega.{arith}
use mathlib.Core.Path.{◌≡◌, refl, sym, subst, ◌∙◌}
use mathlib.Core.Logic.{◌↔◌}
use mathlib.Core.Bool.{Bool, true, false, false≢true}
use Rattle.sheet_rules.specs.declared.Colour.{Colour}
use Rattle.sheet_rules.specs.declared.Record.{Record}
use Rattle.sheet_rules.specs.Record.{is_grey}
use Rattle.pixel_rules.specs.declared.SamplePos.{SamplePos}
use Rattle.pixel_rules.specs.Samples.{Scene, record_of}
use Rattle.pixel_rules.specs.Content.{Content, CanHold, shade, three, Possible}

module _ (r : Record) (c : Colour) where
  -- a grey layer: an octet of lightness and no colour, and nothing else
  pub grey_holds : is_grey r ≡ true → CanHold r c ↔ (v : ℕ) × (v < 256) × (c ≡ record { c0 = v; c1 = 128; c2 = 96 })
  grey_holds g = (to c, λ k. subst (CanHold r) (sym k.2) (shade g k.1))
    where
      to : (c : Colour) → CanHold r c → (v : ℕ) × (v < 256) × (c ≡ record { c0 = v; c1 = 128; c2 = 96 })
      to c (shade {v = v} e h) = (v, h, refl)
      to c (three e h) = absurd (false≢true (sym e ∙ g))

  -- any other image layer: three octets, whichever
  pub colour_holds : is_grey r ≡ false → CanHold r c ↔ (c.c0 < 256) × (c.c1 < 256) × (c.c2 < 256)
  colour_holds g = (to c, λ k. three {c = c} g (record { c0 = omega arith; c1 = omega arith; c2 = omega arith }))
    where
      to : (c : Colour) → CanHold r c → (c.c0 < 256) × (c.c1 < 256) × (c.c2 < 256)
      to c (shade e h) = absurd (false≢true (sym g ∙ e))
      to c (three e h) = (omega arith, omega arith, omega arith)

-- both sentences of a record and a colour
pub record Told (r : Record) (c : Colour) : Type 0 where
  pub grey : is_grey r ≡ true → (v : ℕ) × (v < 256) × (c ≡ record { c0 = v; c1 = 128; c2 = 96 })
  pub coloured : is_grey r ≡ false → (c.c0 < 256) × (c.c1 < 256) × (c.c2 < 256)

pub holds_told : (r : Record) (c : Colour) → CanHold r c ↔ Told r c
holds_told r c = (λ h. record { grey = λ g. (grey_holds r c g).0 h; coloured = λ g. (colour_holds r c g).0 h }, back (is_grey r) refl)
  where
    back : (b : Bool) → is_grey r ≡ b → Told r c → CanHold r c
    back true e t = (grey_holds r c e).1 (t.grey e)
    back false e t = (colour_holds r c e).1 (t.coloured e)

-- a possible content: at every sample of every layer, for itself, what that layer's own record lets it hold, whatever it holds elsewhere
pub possible_told : (v : Scene) (w : Content) → Possible v w ↔ ((l : ℕ) (i j : SamplePos) → Told (record_of v l) (w.colour l i j))
possible_told v w = (
  λ p l i j. (holds_told (record_of v l) (w.colour l i j)).0 (p l i j),
  λ h l i j. (holds_told (record_of v l) (w.colour l i j)).1 (h l i j),
)
