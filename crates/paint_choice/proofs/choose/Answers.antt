use Rattle.paint_choice.proofs.Marks.{marking}
use Rattle.paint_choice.proofs.choose.Goals as goal

pub loop-x-preserved : goal.loop-x-preserved
loop-x-preserved c = search marking
