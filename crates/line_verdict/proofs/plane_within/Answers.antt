use Rattle.line_verdict.proofs.Laws.{spanning}
use Rattle.line_verdict.proofs.plane_within.Goals as goal

pub returns-then-r-eq0 : goal.returns-then-r-eq0
returns-then-r-eq0 c = search spanning

pub plane_span-span-requires : goal.plane_span-span-requires
plane_span-span-requires c = search spanning

pub overflow_cast-result : goal.overflow_cast-result
overflow_cast-result c = search spanning

pub overflow_add-result : goal.overflow_add-result
overflow_add-result c = search spanning

pub returns : goal.returns
returns c = search spanning
