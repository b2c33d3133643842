use Rattle.paint_dark.proofs.Laws.{losing}
use Rattle.paint_dark.proofs.pairs_dark.Goals as goal

pub loop-j-preserved : goal.loop-j-preserved
loop-j-preserved c = search losing
