use Rattle.line_rows.proofs.Laws.{layering}
use Rattle.line_rows.proofs.layer_row.Goals as goal

pub overflow_cast-i : goal.overflow_cast-i
overflow_cast-i c = search layering

pub overflow_sub-i : goal.overflow_sub-i
overflow_sub-i c = search layering

pub overflow_add-i : goal.overflow_add-i
overflow_add-i c = search layering

pub record_at-r-requires : goal.record_at-r-requires
record_at-r-requires c = search layering

pub ratio_of-ratio-requires : goal.ratio_of-ratio-requires
ratio_of-ratio-requires c = search layering

pub overflow_cast-l : goal.overflow_cast-l
overflow_cast-l c = search layering

pub start_of-p-requires : goal.start_of-p-requires
start_of-p-requires c = search layering

pub other_of-requires : goal.other_of-requires
other_of-requires c = search layering

pub row_by-requires : goal.row_by-requires
row_by-requires c = search layering

pub returns : goal.returns
returns c = search layering
