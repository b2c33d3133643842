use Rattle.paint_table.proofs.Laws.{readying}
use Rattle.paint_table.proofs.ready.Goals as goal

pub overflow_mul-result : goal.overflow_mul-result
overflow_mul-result c = search readying

pub overflow_add-result : goal.overflow_add-result
overflow_add-result c = search readying

pub overflow_sub-result : goal.overflow_sub-result
overflow_sub-result c = search readying
