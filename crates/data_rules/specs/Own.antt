-- The layers of a page as its grammar has them (page_rules, specs/Grammar.antt), by stripe and layer.
--
--   layer_of m .. z l  the octets of layer l of a stripe from its body on: in Mode 1, 1 is the background, 2 the mask, 3 the foreground
--   layer_in z l       the octets of layer l of a stripe
--   layers_in y k l    the octets of layer l of stripe k
use Rattle.std.specs.Prelude.{ℕ, ◌+◌, cond, List, [], length, eqb}
use Rattle.sheet_rules.specs.declared.Record.{Record}
use Rattle.segment_rules.specs.declared.Mode.{Mode}
use Rattle.segment_rules.specs.declared.Mode.TheVariants.{One}
use Rattle.start_rules.specs.declared.Head.{Head}
use Rattle.body_rules.specs.Body.{last, next}
use Rattle.page_rules.specs.Grammar.{StripeIn, Stripe, Stripes}

unfoldable pub layer_of : (m : Mode) (hd : Head) (k left at : ℕ) (o : List ℕ) (height : ℕ) (rs : List Record) → StripeIn m hd k left at o height rs → ℕ → List ℕ
layer_of One hd k left at o height rs z l = cond (eqb l 1) z.back (cond (eqb l 2) z.mask (cond (eqb l 3) z.fore []))

unfoldable pub layer_in : {hd : Head} {k left at : ℕ} {o : List ℕ} {height : ℕ} {rs : List Record} → Stripe hd k left at o height rs → ℕ → List ℕ
unfolding layer_of
layer_in {hd} {k} {left} {at} {o} {height} {rs} z l = layer_of hd.rules.mode hd k left (at + length z.begin) z.rest height rs z.behind l

unfoldable pub layers_in : {hd : Head} {k left at : ℕ} {o : List ℕ} {rs : List Record} → Stripes hd k left at o rs → ℕ → ℕ → List ℕ
unfolding layer_in
layers_in (last some) j l = []
layers_in {k = k} (next height few z rest) j l = cond (eqb j k) (layer_in z l) (layers_in rest j l)
