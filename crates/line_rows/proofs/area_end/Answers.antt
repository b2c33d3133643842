use native.Mathlib.Omega.{arith}
use Rattle.line_sample.proofs.Laws.{product_small}
use Rattle.line_rows.proofs.Laws.{end_small}
use Rattle.line_rows.proofs.area_end.Goals as goal

pub overflow_mul-result : goal.overflow_mul-result
overflow_mul-result c = record { fits = omega (arith, product_small _ _ c.requires.1 c.requires.2) }

pub overflow_add-result : goal.overflow_add-result
overflow_add-result c = record { fits = omega (arith, end_small _ _ _ c.requires) }
