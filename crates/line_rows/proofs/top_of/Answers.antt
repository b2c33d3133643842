use Rattle.line_rows.proofs.Laws.{areas}
use Rattle.line_rows.proofs.top_of.Goals as goal

pub returns : goal.returns
returns c = search areas
