-- A segment is refused with a number that reading can give, at a place within the page.
-- Assumes nothing.
use Prim.Native.Nat.{ℕ, ◌+◌, ◌-◌, ◌≤◌}
use native.Mathlib.Omega.{arith}
use mathlib.Core.Path.{◌≡◌}
use mathlib.Core.List.{List, []}
use lib.ListN.{length}
use lib.Dec.{eqb, lit≤}
use Rattle.laws.proofs.Cases.{cond_with, clash}
use Rattle.answers.specs.declared.Refusal.{Refusal}
use Rattle.answers.specs.declared.Refusal.TheVariants.{BadLength}
use Rattle.answers.specs.Answers.{refusal_number, refusal_place}
use Rattle.field_rules.specs.Field.{no, fields}
use Rattle.field_rules.specs.Part.{span_of}
use Rattle.field_rules.proofs.Refused.{Names, fields_end}
use Rattle.field_rules.proofs.Named.{PageRefusal, bind_refused, told, table_refused, span_refused}
use Rattle.segment_rules.specs.declared.Version.{Version}
use Rattle.segment_rules.proofs.Begin.{open_size}
use Rattle.segment_rules.specs.Segment.{Need, passed, sized, Due, size_in, ident_in, open_table, behind_of, segment_of}

module _ (version : Version) (due : Due) (s : List ℕ) (a : Refusal) where
  open_named : Names (λ b. PageRefusal (length s) b) (length s) (open_table version due)
  unfolding Names open_table refusal_number refusal_place
  open_named = (
    λ p h. record { least = lit≤ tt; most = lit≤ tt; place = h },
    (
      λ p h. record { least = lit≤ tt; most = lit≤ tt; place = h },
      (
        λ p h. record { least = lit≤ tt; most = lit≤ tt; place = h },
        (
          λ p h. record { least = lit≤ tt; most = lit≤ tt; place = h },
          tt,
        ),
      ),
    ),
  )

  behind_refused : (need : Need) (n size length_at at : ℕ) → length_at ≤ at → at ≤ length s → behind_of need n size length_at s at ≡ no a → PageRefusal (length s) a
  unfolding behind_of refusal_number refusal_place
  behind_refused passed n size length_at at l h = λ q.
      bind_refused (PageRefusal (length s) a) (span_of s at size) _ a q (λ e. span_refused s a at size h e) (λ m e q1 q2. clash cc)
  behind_refused (sized need) n size length_at at l h =
      cond_with (λ x. x ≡ no a → PageRefusal (length s) a) (eqb size need) (λ t e. clash cc)
      (λ t e. told s a (BadLength length_at) (record { least = lit≤ tt; most = lit≤ tt; place = let u : length_at ≤ length s = omega arith in u }) e)

  pub segment_refused : (at : ℕ) → at ≤ length s → segment_of version due s at ≡ no a → PageRefusal (length s) a
  unfolding segment_of
  segment_refused at h q =
      bind_refused (PageRefusal (length s) a) (fields (open_table version due) [] s at) _ a q (λ e. table_refused s a (open_table version due) open_named at h e) λ vs p q1 q2.
      let fe = fields_end (open_table version due) [] vs s at p h q1 in
      let f0 = fe.0 in
      let sz = open_size version due in
      behind_refused (due.body (ident_in vs)) (ident_in vs) (size_in vs - 6) (at + 2) p (omega arith) fe.1 q2
