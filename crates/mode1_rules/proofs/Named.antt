-- A stripe is refused with a number that reading can give, at a place within the page.
-- Assumes nothing.
use Prim.Native.Nat.{ℕ, ◌≤◌}
use mathlib.Core.Path.{◌≡◌, refl}
use mathlib.Core.Bool.{Bool, true, false}
use mathlib.Core.List.{List, []}
use lib.ListN.{length}
use lib.Dec.{lit≤}
use Rattle.octets.specs.Octets.{Octets}
use Rattle.laws.proofs.Cases.{clash}
use Rattle.answers.specs.declared.Refusal.{Refusal}
use Rattle.answers.specs.Answers.{refusal_number, refusal_place}
use Rattle.field_rules.specs.Field.{no, fields}
use Rattle.field_rules.specs.Part.{span_of}
use Rattle.field_rules.proofs.Parts.{exact_span}
use Rattle.field_rules.proofs.Refused.{Names, fields_end}
use Rattle.field_rules.proofs.Named.{PageRefusal, bind_refused, told, table_refused, span_refused}
use Rattle.jpeg_rules.specs.declared.Fault.{Fault}
use Rattle.jpeg_rules.specs.declared.Fault.TheVariants as F
use Rattle.std.specs.Prelude.{Result, Ok, Err}
use Rattle.jpeg_rules.specs.declared.Said.{Said}
use Rattle.jpeg_rules.specs.Walk.{walk_of}
use Rattle.jpeg_rules.proofs.Within.{walk_within, place_of as place_of_fault}
use Rattle.start_rules.specs.declared.Head.{Head}
use Rattle.mode1_rules.specs.declared.Fields.{Fields}
use Rattle.mode1_rules.specs.Kinds.{has_back, has_fore}
use Rattle.mode1_rules.specs.Reading.{stripe_table, fields_from, fault_of, on_walk, walked, layers_of, stripe_read}
use Rattle.mode1_rules.proofs.Layers.{exact_image}

module _ (s : List ℕ) (a : Refusal) where
  stripe_named : (hd : Head) (left : ℕ) → Names (λ b. PageRefusal (length s) b) (length s) (stripe_table hd left)
  unfolding Names stripe_table refusal_number refusal_place
  stripe_named hd left = (
    λ p h. record { least = lit≤ tt; most = lit≤ tt; place = h },
    (
      λ p h. record { least = lit≤ tt; most = lit≤ tt; place = h },
      (
        λ p h. record { least = lit≤ tt; most = lit≤ tt; place = h },
        (
          λ p h. record { least = lit≤ tt; most = lit≤ tt; place = h },
          (
            λ p h. record { least = lit≤ tt; most = lit≤ tt; place = h },
            (
              λ p h. record { least = lit≤ tt; most = lit≤ tt; place = h },
              (
                λ p h. record { least = lit≤ tt; most = lit≤ tt; place = h },
                tt,
              ),
            ),
          ),
        ),
      ),
    ),
  )

  fault_refusal : (f : Fault) → place_of_fault f ≤ length s → PageRefusal (length s) (fault_of f)
  unfolding fault_of place_of_fault refusal_number refusal_place
  fault_refusal (F.Short p) h = record { least = lit≤ tt; most = lit≤ tt; place = h }
  fault_refusal (F.BadLength p) h = record { least = lit≤ tt; most = lit≤ tt; place = h }
  fault_refusal (F.BadRes p) h = record { least = lit≤ tt; most = lit≤ tt; place = h }
  fault_refusal (F.BadLayer p) h = record { least = lit≤ tt; most = lit≤ tt; place = h }

  walk_refused : (main at : ℕ) → at ≤ length s → (x : Result (ℕ × Said) Fault) → walk_of s at main ≡ x → on_walk x at ≡ no a → PageRefusal (length s) a
  unfolding on_walk
  walk_refused main at h (Ok (n, said)) q z = clash cc
  walk_refused main at h (Err f) q z = told s a (fault_of f) (fault_refusal f (walk_within s at main h f q)) z

  walked_refused : (main at : ℕ) (b : Bool) → at ≤ length s → walked s main b at ≡ no a → PageRefusal (length s) a
  unfolding walked
  walked_refused main at true h e = walk_refused main at h (walk_of s at main) refl e
  walked_refused main at false h e = clash cc

  layers_refused : Octets s → (hd : Head) (k : ℕ) (f : Fields) (at : ℕ) → at ≤ length s → layers_of hd k f s at ≡ no a → PageRefusal (length s) a
  unfolding layers_of
  layers_refused o hd k f at h q =
      bind_refused (PageRefusal (length s) a) (span_of s at f.mask_length) _ a q (λ e. span_refused s a at f.mask_length h e) λ n p q1 q2.
      let hp = ((exact_span f.mask_length s at h).back o n p q1).inside in
      bind_refused (PageRefusal (length s) a) (walked s hd.main (has_back f.kind) p) _ a q2 (λ e. walked_refused hd.main p (has_back f.kind) hp e) λ back b q3 q4.
      let hb = ((exact_image hd.main (has_back f.kind) s p hp).back o back b q3).inside in
      bind_refused (PageRefusal (length s) a) (walked s hd.main (has_fore f.kind) b) _ a q4 (λ e. walked_refused hd.main b (has_fore f.kind) hb e) (λ fore c q5 q6. clash cc)

  pub stripe_refused : Octets s → (hd : Head) (k left at : ℕ) → at ≤ length s → stripe_read hd k left s at ≡ no a → PageRefusal (length s) a
  unfolding stripe_read
  stripe_refused o hd k left at h q =
      bind_refused (PageRefusal (length s) a) (fields (stripe_table hd left) [] s at) _ a q (λ e. table_refused s a (stripe_table hd left) (stripe_named hd left) at h e) λ vs p q1 q2.
      let fe = fields_end (stripe_table hd left) [] vs s at p h q1 in
      bind_refused (PageRefusal (length s) a) (layers_of hd k (fields_from vs) s p) _ a q2 (λ e. layers_refused o hd k (fields_from vs) p fe.1 e) (λ rs e q3 q4. clash cc)
