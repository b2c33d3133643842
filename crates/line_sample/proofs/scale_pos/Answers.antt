use Rattle.line_sample.proofs.Laws.{scaling}
use Rattle.line_sample.proofs.scale_pos.Goals as goal

pub overflow_sub-d : goal.overflow_sub-d
overflow_sub-d c = search scaling

pub overflow_mul-result : goal.overflow_mul-result
overflow_mul-result c = search scaling

pub returns : goal.returns
returns c = search scaling
