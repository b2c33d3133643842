use Rattle.paint_gather.proofs.Laws.{gathering}
use Rattle.paint_gather.proofs.gather_kind.Goals as goal

pub returns-then-y-e : goal.returns-then-y-e
returns-then-y-e g c = search gathering
