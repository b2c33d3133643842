use Rattle.paint_lit.proofs.Laws.{looking}
use Rattle.paint_lit.proofs.dark_block.Goals as goal

pub loop-j-init : goal.loop-j-init
loop-j-init c = search looking

pub overflow_add-all : goal.overflow_add-all
overflow_add-all c = search looking

pub bounds-sel-i : goal.bounds-sel-i
bounds-sel-i c = search looking

pub loop-j-preserved : goal.loop-j-preserved
loop-j-preserved c = search looking

pub returns : goal.returns
returns c = search looking
