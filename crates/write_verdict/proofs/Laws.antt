-- What hangs on the mode, by cases on the mode.
-- Assumes nothing.
use Prim.Native.Nat.{ℕ}
use mathlib.Core.Path.{◌≡◌, refl}
use Rattle.segment_rules.specs.declared.Mode.{Mode}
use Rattle.segment_rules.specs.declared.Mode.TheVariants.{One}
use Rattle.segment_rules.specs.Rules.{most_layers}

pub most_one : (mode : Mode) → ◌≡◌ {A = ℕ} 3 (most_layers mode)
most_one One = refl
