use Rattle.paint_lit.proofs.Laws.{darkening}
use Rattle.paint_lit.proofs.dark_end.Goals as goal

pub loop-e-init : goal.loop-e-init
loop-e-init c = search darkening

pub overflow_sub-n : goal.overflow_sub-n
overflow_sub-n c = search darkening

pub dark_block-requires : goal.dark_block-requires
dark_block-requires c = search darkening

pub returns-then-not-dark_block : goal.returns-then-not-dark_block
returns-then-not-dark_block c = search darkening

pub overflow_add-e : goal.overflow_add-e
overflow_add-e c = search darkening

pub loop-e-smaller : goal.loop-e-smaller
loop-e-smaller c = search darkening

pub loop-e-preserved : goal.loop-e-preserved
loop-e-preserved c = search darkening

pub returns : goal.returns
returns c = search darkening
