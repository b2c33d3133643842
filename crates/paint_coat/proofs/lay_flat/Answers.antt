use Rattle.paint_coat.proofs.Laws.{coating}
use Rattle.paint_coat.proofs.lay_flat.Goals as goal

pub loop-x-preserved : goal.loop-x-preserved
loop-x-preserved c = search coating
