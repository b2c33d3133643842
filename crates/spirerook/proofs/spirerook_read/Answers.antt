use Rattle.spirerook.proofs.Laws.{calls}
use Rattle.spirerook.proofs.spirerook_read.Goals as goal

pub returns : goal.returns
returns c = search calls
