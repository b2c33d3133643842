-- A stripe is read exactly where it stands, from its body on, and refused exactly as the sentences say.
-- Assumes nothing.
use Prim.Native.Nat.{ℕ, ◌+◌, ◌≤◌}
use native.Mathlib.Omega.{arith}
use mathlib.Core.Path.{◌≡◌, refl, sym, ap, subst}
use mathlib.Core.List.{List, [], ◌++◌}
use lib.ListN.{length}
use Rattle.answers.specs.declared.Refusal.{Refusal}
use Rattle.sheet_rules.specs.declared.Record.{Record}
use Rattle.field_rules.specs.Field.{fields}
use Rattle.field_rules.specs.Stands.{Stands}
use Rattle.field_rules.specs.Fault.{Faulted}
use Rattle.field_rules.specs.Part.{Exact, Both, BadThen, bad_first, bad_later, Mapped, mapped}
use Rattle.field_rules.proofs.Parts.{exact_as, exact_then, exact_map, exact_fields}
use Rattle.body_rules.specs.Body.{Item, striped}
use Rattle.start_rules.specs.declared.Head.{Head}
use Rattle.mode1_rules.specs.declared.Fields.{Fields}
use Rattle.mode1_rules.specs.Kinds.{stripe_body}
use Rattle.mode1_rules.specs.Grammar.{fields_of, Widths, GoodFields, Stripe}
use Rattle.mode1_rules.specs.Reading.{stripe_table, fields_from, layers_of, stripe_read}
use Rattle.mode1_rules.specs.Faults.{BadLayers, BadStripeRest, bad_fields, bad_layers}
use Rattle.mode1_rules.proofs.Tables.{length_fields, stripe_numbers, stripe_stands, stripe_apart}
use Rattle.mode1_rules.proofs.Layers.{Layers, exact_layers}
use Rattle.mode1_rules.proofs.FieldFaults.{faulted_fields, fields_faulted}

-- what a turn finds where a stripe stands
pub data Striped (hd : Head) (k left at : ℕ) : List ℕ → Item → Type 0 where
  striping : {l : List ℕ} {height : ℕ} {rs : List Record} → Stripe hd k left at l height rs → Striped hd k left at l (striped height rs)

module _ (hd : Head) (k left : ℕ) (s : List ℕ) (at : ℕ) (h : at ≤ length s) (low : left ≤ 65535) where
  abbrev First : List ℕ → List ℕ → Type 0
  First l vs = Stands (stripe_table hd left) [] vs l

  abbrev Second : List ℕ → ℕ → List ℕ → Item → Type 0
  Second vs n = Mapped (λ (rs : List Record). striped (fields_from vs).height rs) (Layers hd k (fields_from vs) n)

  abbrev Worse : List ℕ → ℕ → List ℕ → Refusal → Type 0
  Worse vs n = BadLayers hd (fields_from vs) n

  place : (f : Fields) → at + length (fields_of f) ≡ at + stripe_body
  place f = let n = length_fields f in omega arith

  pub stripe_exact : Exact (stripe_read hd k left s at) (Striped hd k left at) (BadStripeRest hd left at) s at
  unfolding stripe_read
  stripe_exact =
      exact_as
      (exact_then (fields (stripe_table hd left) [] s at) _ First (Faulted (stripe_table hd left) [] at) Second Worse s at h
      (exact_fields (stripe_table hd left) [] s at h) (λ vs l st i.
      exact_map (layers_of hd k (fields_from vs) s (at + length l)) (λ (rs : List Record). striped (fields_from vs).height rs) (Layers hd k (fields_from vs) (at + length l))
      (BadLayers hd (fields_from vs) (at + length l)) s (at + length l) i (exact_layers hd k (fields_from vs) s (at + length l) i)))
      (λ l it b. subst (λ (x : List ℕ). Striped hd k left at x it) (sym b.octets)
      (stripe_apart (λ (vs m : List ℕ). Second vs (at + length m) b.rest it → Striped hd k left at (m ++ b.rest) it) hd left b.first (λ f w g y. of f w g y) b.second))
      (λ l it b. fro b)
      (λ l x b. bad b)
      (λ l x b. worse b)
    where
      of : (f : Fields) → Widths f → GoodFields hd left f → {l : List ℕ} {it : Item} → Second (stripe_numbers f) (at + length (fields_of f)) l it → Striped hd k left at (fields_of f ++ l) it
      of f w g {l} (mapped rs z) =
          let y = subst (λ (n : ℕ). Layers hd k f n l rs) (place f) z in
          striping
          (record {
            fields = f;
            mask = y.mask;
            back = y.back;
            fore = y.fore;
            back_is = y.back_is;
            fore_is = y.fore_is;
            octets = ap (λ (x : List ℕ). fields_of f ++ x) y.octets;
            widths = w;
            good = g;
            size = y.size;
            back_there = y.back_there;
            fore_there = y.fore_there;
            tall = refl;
            records = y.records;
          })

      fro : {l : List ℕ} {it : Item} → Striped hd k left at l it → Both First Second at l it
      fro {l} (striping {rs = rs} y) =
          let f = y.fields in
          record {
            front = fields_of f;
            rest = y.mask ++ (y.back ++ y.fore);
            value = stripe_numbers f;
            octets = y.octets;
            first = stripe_stands hd left f low y.widths y.good;
            second =
                subst (λ (j : ℕ). Mapped (λ (rs : List Record). striped f.height rs) (Layers hd k f (at + length (fields_of f))) (y.mask ++ (y.back ++ y.fore)) (striped j rs)) (sym y.tall)
                (mapped rs
                (subst (λ (n : ℕ). Layers hd k f n (y.mask ++ (y.back ++ y.fore)) rs) (sym (place f))
                (record {
                  mask = y.mask;
                  back = y.back;
                  fore = y.fore;
                  back_is = y.back_is;
                  fore_is = y.fore_is;
                  octets = refl;
                  size = y.size;
                  back_there = y.back_there;
                  fore_there = y.fore_there;
                  records = y.records;
                })));
          }

      bad : {l : List ℕ} {x : Refusal} → BadThen First (Faulted (stripe_table hd left) [] at) Worse at l x → BadStripeRest hd left at l x
      bad {l} {x} (bad_first b) = bad_fields (faulted_fields hd left at l x b)
      bad {x = x} (bad_later m r vs st b) =
          stripe_apart (λ (vs m : List ℕ). Worse vs (at + length m) r x → BadStripeRest hd left at (m ++ r) x) hd left st
          (λ f w g y. bad_layers f r w g (subst (λ (n : ℕ). BadLayers hd f n r x) (place f) y)) b

      worse : {l : List ℕ} {x : Refusal} → BadStripeRest hd left at l x → BadThen First (Faulted (stripe_table hd left) [] at) Worse at l x
      worse {l} {x} (bad_fields b) = bad_first (fields_faulted hd left at l x b)
      worse {x = x} (bad_layers f l w g b) =
          bad_later (fields_of f) l (stripe_numbers f) (stripe_stands hd left f low w g) (subst (λ (n : ℕ). BadLayers hd f n l x) (sym (place f)) b)
