use Rattle.line_rows.proofs.Laws.{areas}
use Rattle.line_rows.proofs.line_covers.Goals as goal

pub area_end-to-requires : goal.area_end-to-requires
area_end-to-requires c = search areas

pub returns : goal.returns
returns c = search areas
