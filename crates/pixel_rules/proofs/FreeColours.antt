-- The colours that a layer can hold, said in numbers, each of which some possible content has at a sample. Apart from Free.antt, so that an edit of `held_free`
-- there is refused by itself.
-- Assumes nothing.
use Prim.Native.Nat.{ℕ, ◌<◌}
use mathlib.Core.Path.{◌≡◌, refl}
use mathlib.Core.Logic.{◌≢◌}
use borrow.Author.Tests.{eq-eqb, ne_eqb}
use Rattle.sheet_rules.specs.declared.Colour.{Colour}
use Rattle.pixel_rules.specs.declared.SamplePos.{SamplePos}
use Rattle.pixel_rules.specs.Samples.{Scene, record_of}
use Rattle.pixel_rules.specs.Content.{Content, Possible}
use Rattle.pixel_rules.proofs.Held.{grey_holds, colour_holds}
use Rattle.pixel_rules.proofs.Free.{Freed, held_free}

module _ (v : Scene) (w : Content) (ok : Possible v w) (l : ℕ) (i j : SamplePos) where
  -- three octets, whichever, where octet 17 of the layer's record is not 1
  pub colour_free : (record_of v l).octet17 ≢ 1 → (c0 c1 c2 : ℕ) → c0 < 256 → c1 < 256 → c2 < 256 → Freed v w l i j (record { c0 = c0; c1 = c1; c2 = c2 })
  colour_free g c0 c1 c2 h0 h1 h2 =
      let c : Colour = record { c0 = c0; c1 = c1; c2 = c2 } in
      held_free v w ok l i j c ((colour_holds (record_of v l) c (ne_eqb (record_of v l).octet17 1 g)).1 (h0, h1, h2))

  -- any lightness and no colour where it is 1
  pub shade_free : (record_of v l).octet17 ≡ 1 → (n : ℕ) → n < 256 → Freed v w l i j (record { c0 = n; c1 = 128; c2 = 96 })
  shade_free g n h =
      let c : Colour = record { c0 = n; c1 = 128; c2 = 96 } in
      held_free v w ok l i j c ((grey_holds (record_of v l) c (eq-eqb (record_of v l).octet17 1 g)).1 (n, h, refl))
