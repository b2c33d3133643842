use Rattle.spirerook.proofs.Laws.{calls}
use Rattle.spirerook.proofs.spirerook_write.Goals as goal

pub returns : goal.returns
returns c = search calls
