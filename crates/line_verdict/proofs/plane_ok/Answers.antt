use Rattle.line_verdict.proofs.Laws.{entering}
use Rattle.line_verdict.proofs.plane_ok.Goals as goal

pub returns-then-p-last : goal.returns-then-p-last
returns-then-p-last c = search entering

pub overflow_cast-l : goal.overflow_cast-l
overflow_cast-l c = search entering

pub overflow_cast-extent : goal.overflow_cast-extent
overflow_cast-extent c = search entering

pub returns-then-extent-l : goal.returns-then-extent-l
returns-then-extent-l c = search entering

pub overflow_cast-extent-2 : goal.overflow_cast-extent-2
overflow_cast-extent-2 c = search entering

pub overflow_sub-l : goal.overflow_sub-l
overflow_sub-l c = search entering

pub overflow_add-extent : goal.overflow_add-extent
overflow_add-extent c = search entering

pub record_at-r-requires : goal.record_at-r-requires
record_at-r-requires c = search entering

pub plane_within-requires : goal.plane_within-requires
plane_within-requires c = search entering

pub returns : goal.returns
returns c = search entering
