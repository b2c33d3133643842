-- The layers of a Mode 1 stripe, and the stripe, by what Mode1.antt says of each layer. Apart from it, so that an edit of a layer's look there is refused by itself.
-- Assumes nothing.
use Prim.Native.Nat.{ℕ, ◌+◌, ◌≤◌}
use mathlib.Core.List.{List, []}
use lib.ListN.{length}
use Rattle.octets.specs.Octets.{Octets}
use Rattle.field_rules.specs.Field.{ok, bind, fields}
use Rattle.field_rules.specs.Part.{span_of}
use Rattle.page_looks.proofs.Hangs.{reach, Whole}
use Rattle.page_looks.proofs.Looked.{Looked, looked_bind, looked_map, looked_span, looked_fields}
use Rattle.sheet_rules.specs.declared.Record.{Record}
use Rattle.start_rules.specs.declared.Head.{Head}
use Rattle.body_rules.specs.Body.{striped}
use Rattle.mode1_rules.specs.declared.Fields.{Fields}
use Rattle.std.specs.Prelude.{Option}
use Rattle.mode1_rules.specs.declared.LayerData.{LayerData}
use Rattle.mode1_rules.specs.Kinds.{has_back, has_fore}
use Rattle.mode1_rules.specs.Grammar.{records_of}
use Rattle.mode1_rules.specs.Reading.{stripe_table, fields_from, walked, layers_of, stripe_read}
use Rattle.page_looks.proofs.Mode1.{layer_look, layers_look, stripe_look, stripe_near, looked_walked}

module _ (s : List ℕ) (o : Octets s) (hd : Head) where
  layers_looked : (k : ℕ) (f : Fields) (at : ℕ) → Whole (layers_of hd k f s at) → Looked (layers_look hd f s at) (λ (t : List ℕ). layers_of hd k f t at) s at
  unfolding layers_of layers_look
  layers_looked k f at =
      looked_bind s (λ (t : List ℕ). span_of t at f.mask_length)
      (λ (n p : ℕ) (t : List ℕ).
      bind (walked t hd.main (has_back f.kind) p) (λ (back : Option LayerData) (q : ℕ).
      bind (walked t hd.main (has_fore f.kind) q) (λ (fore : Option LayerData) (e : ℕ). ok (records_of hd k f at back fore) e)))
      (at + f.mask_length) _ at (looked_span s at f.mask_length) λ n p hp ip ep.
      looked_bind s (λ (t : List ℕ). walked t hd.main (has_back f.kind) p)
      (λ (back : Option LayerData) (q : ℕ) (t : List ℕ). bind (walked t hd.main (has_fore f.kind) q) (λ (fore : Option LayerData) (e : ℕ). ok (records_of hd k f at back fore) e))
      (layer_look s hd.main (has_back f.kind) p) _ p (looked_walked s o hd.main (has_back f.kind) p ip) λ back q hq iq eq.
      looked_map s (λ (t : List ℕ). walked t hd.main (has_fore f.kind) q) (λ (fore : Option LayerData). records_of hd k f at back fore)
      (layer_look s hd.main (has_fore f.kind) q) q (looked_walked s o hd.main (has_fore f.kind) q iq)

  pub stripe_looked : (k left at : ℕ) → at ≤ length s → Whole (stripe_read hd k left s at)
      → Looked (stripe_look hd left s at) (λ (t : List ℕ). stripe_read hd k left t at) s at
  unfolding stripe_read stripe_look
  stripe_looked k left at h =
      looked_bind s (λ (t : List ℕ). fields (stripe_table hd left) [] t at)
      (λ (vs : List ℕ) (n : ℕ) (t : List ℕ). bind (layers_of hd k (fields_from vs) t n) (λ (rs : List Record) (e : ℕ). ok (striped (fields_from vs).height rs) e))
      (reach (stripe_table hd left) [] s at) _ at (looked_fields s (stripe_table hd left) at h (stripe_near at hd left)) λ vs n hn ni en.
      looked_map s (λ (t : List ℕ). layers_of hd k (fields_from vs) t n) (λ (rs : List Record). striped (fields_from vs).height rs) (layers_look hd (fields_from vs) s n) n
      (layers_looked k (fields_from vs) n)
