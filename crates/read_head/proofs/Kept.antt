-- What code reads at a stripe's places, after the verdict on its fields, is what the table's reading gives, and the rules hold of it.
-- Assumes nothing.
use Prim.Native.Nat.{ℕ, ◌+◌, ◌≤◌}
use native.Mathlib.Nat.{add_assoc}
use native.Mathlib.Omega.{arith}
use mathlib.Core.Path.{◌≡◌, refl, ap, subst, subst₂, ◌∙◌}
use mathlib.Core.Bool.{true}
use mathlib.Core.List.{List, []}
use lib.ListN.{length, get_or}
use Rattle.laws.specs.Tests.{within}
use Rattle.laws.proofs.Says.{says_le, says_and}
use Rattle.octets.specs.Octets.{be32_at}
use Rattle.field_rules.specs.Field.{ok, numbers, widths, fields}
use Rattle.field_rules.proofs.Refused.{rows_size, fields_end}
use Rattle.field_rules.proofs.Values.{values_of, fields_values}
use Rattle.start_rules.specs.declared.Head.{Head}
use Rattle.mode1_rules.specs.Kinds.{stripe_body, has_back, has_fore, offset_ok}
use Rattle.mode1_rules.specs.Reading.{stripe_table, fields_from}
use Rattle.mode1_rules.proofs.Rules.{says_offset}
use Rattle.read_field.proofs.Views.{Holds, fields_hold}
use Rattle.read_head.specs.Fields.{fields_at}

module _ (hd : Head) (left : ℕ) (s : List ℕ) (at : ℕ) where
  rows_size_lem : rows_size (stripe_table hd left) ≡ stripe_body
  unfolding stripe_table rows_size
  rows_size_lem = refl

  module _ (vs : List ℕ) (n : ℕ) (e : fields (stripe_table hd left) [] s at ≡ ok vs n) where
    pub fields_kept : fields_from vs ≡ fields_at s at
    unfolding stripe_table numbers widths values_of fields_at
    fields_kept = ap fields_from (fields_values (stripe_table hd left) [] vs s at n e) ∙ simp add_assoc

    pub fields_past : at ≤ length s → (n ≡ at + stripe_body) × (n ≤ length s)
    fields_past h =
        let f = fields_end (stripe_table hd left) [] vs s at n h e in
        let f0 = f.0 in
        let w = rows_size_lem in
        (omega arith, f.1)

    rules : Holds (stripe_table hd left) [] s at
    rules = fields_hold (stripe_table hd left) [] vs s at n e

    pub height_low : (fields_at s at).height ≤ left
    unfolding stripe_table numbers widths Holds fields_at
    height_low =
        let p : at + 1 + 3 + 3 + 8 + 8 ≡ at + 23 = omega arith in
        ((says_and (says_le 1 (be32_at s (at + 23))) (says_le (be32_at s (at + 23)) left)).told
        (subst (λ (j : ℕ). within 1 left (be32_at s j) ≡ true) p rules.1.1.1.1.1.0)).1

    pub back_low : has_back (fields_at s at).kind ≡ true → ((fields_at s at).back_x ≤ 65535) × ((fields_at s at).back_y ≤ 65535)
    unfolding stripe_table numbers widths Holds fields_at
    back_low =
        let p : at + 1 + 3 + 3 ≡ at + 7 = omega arith in
        let q : at + 1 + 3 + 3 + 4 ≡ at + 11 = omega arith in
        (says_offset (has_back (get_or s at 0)) (be32_at s (at + 7)) (be32_at s (at + 11))).told
        (subst₂ (λ (i j : ℕ). offset_ok (has_back (get_or s at 0)) (be32_at s i) (be32_at s j) ≡ true) p q rules.1.1.1.0)

    pub fore_low : has_fore (fields_at s at).kind ≡ true → ((fields_at s at).fore_x ≤ 65535) × ((fields_at s at).fore_y ≤ 65535)
    unfolding stripe_table numbers widths Holds fields_at
    fore_low =
        let p : at + 1 + 3 + 3 + 8 ≡ at + 15 = omega arith in
        let q : at + 1 + 3 + 3 + 8 + 4 ≡ at + 19 = omega arith in
        (says_offset (has_fore (get_or s at 0)) (be32_at s (at + 15)) (be32_at s (at + 19))).told
        (subst₂ (λ (i j : ℕ). offset_ok (has_fore (get_or s at 0)) (be32_at s i) (be32_at s j) ≡ true) p q rules.1.1.1.1.0)
