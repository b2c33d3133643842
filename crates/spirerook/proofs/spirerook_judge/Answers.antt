use Rattle.spirerook.proofs.Laws.{calls}
use Rattle.spirerook.proofs.spirerook_judge.Goals as goal

pub returns : goal.returns
returns c = search calls
