use native.Mathlib.Omega.{arith}
use Rattle.line_sample.proofs.Laws.{product_small}
use Rattle.line_rows.proofs.Laws.{areas}
use Rattle.line_rows.proofs.row_start.Goals as goal

pub wide16-requires : goal.wide16-requires
wide16-requires c = search areas

pub overflow_mul-n : goal.overflow_mul-n
overflow_mul-n c = record { fits = omega (arith, product_small _ _ c.requires.0 c.wide16.ensures.1) }

pub sample_octets-requires : goal.sample_octets-requires
sample_octets-requires c = search areas

pub overflow_add-result : goal.overflow_add-result
overflow_add-result c = search areas

pub returns : goal.returns
returns c = search areas
