use Rattle.line_rows.proofs.Laws.{crossing}
use Rattle.line_rows.proofs.row_in.Goals as goal

pub factor_of-factor-requires : goal.factor_of-factor-requires
factor_of-factor-requires c = search crossing

pub scale_pos-down-requires : goal.scale_pos-down-requires
scale_pos-down-requires c = search crossing

pub row_start-requires : goal.row_start-requires
row_start-requires c = search crossing

pub returns-in-None : goal.returns-in-None
returns-in-None c = search crossing

pub returns-in-Some : goal.returns-in-Some
returns-in-Some c = search crossing
