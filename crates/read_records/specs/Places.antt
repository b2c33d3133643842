-- What a stripe's fields must be for its records to hold them.
--
--   Placed c x y     a layer that is coded has an offset of sixteen bits
--   Room out to f back fore   the sheet has room for the three records from an octet on, and the numbers are small enough
use Rattle.std.specs.Prelude.{ℕ, ◌+◌, ◌*◌, ◌≤◌, List, length, Option, Some, None}
use Rattle.sheet_rules.specs.Record.{record_size}
use Rattle.mode1_rules.specs.declared.Fields.{Fields}
use Rattle.mode1_rules.specs.declared.LayerData.{LayerData}

abbrev pub Placed : Option LayerData → ℕ → ℕ → Type 0
Placed (Some w) x y = (x ≤ 65535) × (y ≤ 65535)
Placed None x y = Unit {0}

pub record Room (out : List ℕ) (to : ℕ) (f : Fields) (back fore : Option LayerData) : Type 0 where
  pub holds : to + 3 * record_size ≤ length out
  pub height : f.height ≤ 65535
  pub back_placed : Placed back f.back_x f.back_y
  pub fore_placed : Placed fore f.fore_x f.fore_y
