use Rattle.data_find.proofs.Laws.{handing}
use Rattle.data_find.proofs.octets_from.Goals as goal

pub returns : goal.returns
returns c = search handing
