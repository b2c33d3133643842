-- The fields of a stripe at their places (9.3).
--
--   fields_at s at    the fields whose first octet stands at a place
--   Shown s at f     these are the fields at a place of a page
use Rattle.std.specs.Prelude.{ℕ, ◌+◌, ◌≤◌, ◌≡◌, List, get_or}
use Rattle.octets.specs.Octets.{be32_at}
use Rattle.segment_rules.specs.Rules.{longest_page}
use Rattle.sheet_rules.specs.Record.{colour_at}
use Rattle.mode1_rules.specs.declared.Fields.{Fields}

unfoldable pub fields_at : List ℕ → ℕ → Fields
fields_at s at =
    record {
      kind = get_or s at 0;
      back = colour_at s (at + 1);
      fore = colour_at s (at + 4);
      back_x = be32_at s (at + 7);
      back_y = be32_at s (at + 11);
      fore_x = be32_at s (at + 15);
      fore_y = be32_at s (at + 19);
      height = be32_at s (at + 23);
      mask_length = be32_at s (at + 27);
    }

pub record Shown (s : List ℕ) (at : ℕ) (f : Fields) : Type 0 where
  pub near : at ≤ longest_page
  pub same : f ≡ fields_at s at
