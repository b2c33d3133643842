use native.Mathlib.Omega.{arith}
use Rattle.line_sample.proofs.Laws.{product_small}
use Rattle.line_verdict.proofs.Laws.{span_made}
use Rattle.line_verdict.proofs.plane_span.Goals as goal

pub overflow_mul-n : goal.overflow_mul-n
overflow_mul-n c = record { fits = omega (arith, product_small _ _ c.wide16.ensures.1 c.wide16-2.ensures.1) }

pub sample_octets-requires : goal.sample_octets-requires
sample_octets-requires c = (product_small _ _ c.wide16.ensures.1 c.wide16-2.ensures.1, c.depth_of.ensures.1)

pub returns : goal.returns
returns c = span_made _ _ _ _ _ c.wide16.ensures.0 c.wide16-2.ensures.0 c.depth_of.ensures c.sample_octets.ensures
