use Rattle.write_start.proofs.Laws.{begun}
use Rattle.write_start.proofs.put_begin.Goals as goal

pub returns : goal.returns
returns c = begun _ _ _ _ c.requires c.put_octets.ensures c.put16.ensures c.put_octets-2.ensures
