use Rattle.line_rows.proofs.Laws.{others}
use Rattle.line_rows.proofs.other_of.Goals as goal

pub overflow_mul-result : goal.overflow_mul-result
overflow_mul-result c = search others

pub overflow_add-result : goal.overflow_add-result
overflow_add-result c = search others

pub returns-then-r-l : goal.returns-then-r-l
returns-then-r-l c = search others

pub returns-else-r-l : goal.returns-else-r-l
returns-else-r-l c = search others

pub returns-else-l-eq0 : goal.returns-else-l-eq0
returns-else-l-eq0 c = search others
