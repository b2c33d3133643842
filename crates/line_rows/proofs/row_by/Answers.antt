use Rattle.line_rows.proofs.Laws.{crossing}
use Rattle.line_rows.proofs.row_by.Goals as goal

pub row_out-requires : goal.row_out-requires
row_out-requires c = search crossing

pub returns-then-r-eq0 : goal.returns-then-r-eq0
returns-then-r-eq0 c = search crossing

pub top_of-requires : goal.top_of-requires
top_of-requires c = search crossing

pub wide16-requires : goal.wide16-requires
wide16-requires c = search crossing

pub line_covers-requires : goal.line_covers-requires
line_covers-requires c = search crossing

pub row_in-requires : goal.row_in-requires
row_in-requires c = search crossing

pub row_out-requires-else-line_covers : goal.row_out-requires-else-line_covers
row_out-requires-else-line_covers c = search crossing

pub returns-then-line_covers : goal.returns-then-line_covers
returns-then-line_covers c = search crossing

pub returns-else-line_covers : goal.returns-else-line_covers
returns-else-line_covers c = search crossing
