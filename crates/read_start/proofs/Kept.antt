-- What code reads at the places of the start of page, after the verdict on it, is what its reading gives.
-- Assumes nothing.
use Prim.Native.Nat.{ℕ, ◌%◌, ◌≤◌}
use native.Mathlib.Omega.{arith}
use mathlib.Core.Path.{◌≡◌, refl, sym, ap, ◌∙◌}
use mathlib.Core.List.{List, []}
use lib.ListN.{length, get_or}
use Rattle.laws.proofs.Says.{says_le, says_and}
use Rattle.octets.specs.Octets.{be16_at, be32_at}
use Rattle.field_rules.specs.Field.{ok, numbers, widths, fields}
use Rattle.field_rules.proofs.Values.{values_of, fields_values}
use Rattle.field_rules.proofs.Refused.{rows_size, fields_end}
use Rattle.read_field.proofs.Views.{Holds, fields_hold}
use Rattle.segment_rules.specs.Rules.{mode1}
use Rattle.start_rules.specs.Reading.{start_table, head_from}
use Rattle.read_start.specs.Start.{head_at}

start_size_lem : rows_size start_table ≡ 22
unfolding start_table rows_size
start_size_lem = refl

module _ (s vs : List ℕ) (n : ℕ) (e : fields start_table [] s 0 ≡ ok vs n) where
  pub start_end : (n ≡ 22) × (22 ≤ length s)
  start_end =
      let f = fields_end start_table [] vs s 0 n (omega arith) e in
      let f0 = f.0 in
      let f1 = f.1 in
      let w = start_size_lem in
      (omega arith, omega arith)

  width_low : be32_at s 16 % 65536 ≡ be32_at s 16
  unfolding start_table numbers widths Holds
  width_low =
      let h = fields_hold start_table [] vs s 0 n e in
      let w = ((says_and (says_le 1 (be32_at s 16)) (says_le (be32_at s 16) 32768)).told h.1.1.1.1.1.1.1.0).1 in
      omega arith

  pub head_kept : head_from vs ≡ head_at s
  unfolding start_table numbers widths values_of
  head_kept =
      ap head_from (fields_values start_table [] vs s 0 n e)
      ∙ ap (λ (x : ℕ). record { rules = mode1; mask = get_or s 12 0; image = get_or s 13 0; main = be16_at s 14; width = x }) (sym width_low)
