use native.Mathlib.Omega.{arith}
use mathlib.Core.Path.{refl}
use Rattle.line_sample.proofs.Laws.{octets_small}
use Rattle.line_sample.proofs.sample_octets.Goals as goal

pub overflow_mul-result : goal.overflow_mul-result
overflow_mul-result c = record { fits = omega (arith, octets_small _ _ c.requires) }

pub returns : goal.returns
returns c = (refl, octets_small _ _ c.requires)
