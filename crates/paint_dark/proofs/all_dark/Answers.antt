use Rattle.paint_dark.proofs.Laws.{losing}
use Rattle.paint_dark.proofs.all_dark.Goals as goal

pub pairs_dark-requires : goal.pairs_dark-requires
pairs_dark-requires c = search losing
