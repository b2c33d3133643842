use Rattle.paint_gather.proofs.Laws.{rest_chain}
use Rattle.paint_gather.proofs.gather_rest.Goals as goal

pub returns : goal.returns
returns g c = rest_chain _ _ _ _ _ _ _ _ _ _ _ _ c.gather_run-y.ensures c.gather_few.ensures
