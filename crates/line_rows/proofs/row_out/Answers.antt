use Rattle.line_rows.proofs.Laws.{crossing}
use Rattle.line_rows.proofs.row_out.Goals as goal

pub factor_of-requires : goal.factor_of-requires
factor_of-requires c = search crossing

pub returns : goal.returns
returns c = search crossing
