use Rattle.paint_floor.proofs.Laws.{flooring}
use Rattle.paint_floor.proofs.put_floors.Goals as goal

pub loop-j-init : goal.loop-j-init
loop-j-init c = search flooring
