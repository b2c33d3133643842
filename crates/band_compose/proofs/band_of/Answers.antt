use Rattle.band_compose.proofs.Laws.{composing}
use Rattle.band_compose.proofs.band_of.Goals as goal

pub returns : goal.returns
returns c = search composing
