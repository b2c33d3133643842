-- Whether a sample is known.
use Rattle.std.specs.Prelude.{Bool, true, false, Option, Some, None}
use Rattle.sheet_rules.specs.declared.Colour.{Colour}

abbrev pub is_known : Option Colour → Bool
is_known (Some c) = true
is_known None = false
