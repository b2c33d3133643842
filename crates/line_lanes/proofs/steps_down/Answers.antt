use native.Mathlib.Omega.{arith}
use Rattle.line_lanes.proofs.Laws.{down_small}
use Rattle.line_lanes.proofs.steps_down.Goals as goal

pub overflow_mul-result : goal.overflow_mul-result
overflow_mul-result c = record { fits = omega (arith, down_small _ _ c.requires.1 c.requires.2) }

pub overflow_add-result : goal.overflow_add-result
overflow_add-result c = record { fits = omega (arith, down_small _ _ c.requires.1 c.requires.2) }
