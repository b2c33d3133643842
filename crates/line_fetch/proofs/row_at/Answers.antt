use Rattle.line_fetch.proofs.Laws.{rows}
use Rattle.line_fetch.proofs.row_at.Goals as goal

pub returns : goal.returns
returns c = search rows
