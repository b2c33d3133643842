-- A stripe that was read: its records, its height, and where it ends.
-- Assumes nothing.
use Prim.Native.Nat.{ℕ, ◌≤◌}
use native.Mathlib.Omega.{arith}
use mathlib.Core.Path.{◌≡◌, refl, sym, ap, subst}
use mathlib.Core.List.{List, []}
use lib.ListN.{length}
use Rattle.laws.proofs.Cases.{clash}
use Rattle.field_rules.specs.Field.{Res, ok, no, bind, fields}
use Rattle.field_rules.specs.Part.{span_of}
use Rattle.sheet_rules.specs.declared.Record.{Record}
use Rattle.segment_rules.specs.declared.Mode.TheVariants.{One}
use Rattle.segment_rules.specs.Rules.{most_layers}
use Rattle.start_rules.specs.declared.Head.{Head}
use Rattle.body_rules.specs.Body.{Item, striped}
use Rattle.mode1_rules.specs.declared.Fields.{Fields}
use Rattle.mode1_rules.specs.Kinds.{has_back, has_fore}
use Rattle.mode1_rules.specs.Grammar.{records_of}
use Rattle.mode1_rules.specs.Reading.{stripe_table, fields_from, walked, layers_of, stripe_read}
use Rattle.read_head.proofs.Kept.{fields_kept, fields_past, height_low}
use Rattle.read_stripe.proofs.Layers.{layers_after}

pub record Ended (left : ℕ) (s : List ℕ) (at : ℕ) (it : Item) (e : ℕ) : Type 0 where
  pub height : ℕ
  pub records : List Record
  pub is : it ≡ striped height records
  pub most : length records ≤ most_layers One
  pub low : height ≤ left
  pub on : at ≤ e
  pub inside : e ≤ length s

bind_ok : {A B : Type 0} (P : Type 0) (r : Res A) (go : A → ℕ → Res B) (b : B) (n : ℕ) → bind r go ≡ ok b n → ((a : A) (m : ℕ) → r ≡ ok a m → go a m ≡ ok b n → P) → P
unfolding bind
bind_ok P (ok a m) go b n e k = k a m refl e
bind_ok P (no y) go b n e k = clash cc

module _ (hd : Head) (k : ℕ) (f : Fields) (s : List ℕ) (at : ℕ) (h : at ≤ length s) (rs : List Record) (e : ℕ) where
  layers_end : layers_of hd k f s at ≡ ok rs e → (length rs ≤ 3) × (at ≤ e) × (e ≤ length s)
  unfolding layers_of
  layers_end z =
      bind_ok _ (span_of s at f.mask_length) _ rs e z λ n p sp z1.
      bind_ok _ (walked s hd.main (has_back f.kind) p) _ rs e z1 λ back q w z2.
      bind_ok _ (walked s hd.main (has_fore f.kind) q) _ rs e z2 λ fore r v z3.
      let a : records_of hd k f at back fore ≡ rs = cc in
      let b : r ≡ e = cc in
      let c = layers_after hd k f s at back fore r h (record { n = n; q = p; m = q; span = sp; first = w; second = v }) in
      let c0 = c.0 in
      let c1 = c.1 in
      let d : 3 ≡ length rs = ap length a in
      (omega arith, omega arith, omega arith)

module _ (hd : Head) (k left : ℕ) (s : List ℕ) (at : ℕ) (h : at ≤ length s) (it : Item) (e : ℕ) where
  pub stripe_ends : stripe_read hd k left s at ≡ ok it e → Ended left s at it e
  unfolding stripe_read
  stripe_ends z =
      bind_ok _ (fields (stripe_table hd left) [] s at) _ it e z λ vs n q z1.
      bind_ok _ (layers_of hd k (fields_from vs) s n) _ it e z1 λ rs m w z2.
      let p = fields_past hd left s at vs n q h in
      let p0 = p.0 in
      let l = layers_end hd k (fields_from vs) s n p.1 rs m w in
      let l0 = l.0 in
      let l1 = l.1 in
      let l2 = l.2 in
      let a : striped (fields_from vs).height rs ≡ it = cc in
      let b : m ≡ e = cc in
      record {
        height = (fields_from vs).height;
        records = rs;
        is = sym a;
        most = l0;
        low = subst (λ (x : Fields). x.height ≤ left) (sym (fields_kept hd left s at vs n q)) (height_low hd left s at vs n q);
        on = omega arith;
        inside = omega arith;
      }
