use Rattle.write_head.proofs.Laws.{pair_put}
use Rattle.write_head.proofs.put_pair.Goals as goal

pub returns : goal.returns
returns c = pair_put _ _ _ _ c.requires c.put32.ensures c.put32-2.ensures
