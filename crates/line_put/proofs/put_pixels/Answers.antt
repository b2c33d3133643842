use Rattle.line_put.proofs.Laws.{painting}
use Rattle.line_put.proofs.put_pixels.Goals as goal

pub loop-x-init : goal.loop-x-init
loop-x-init c = search painting

pub pixel-p-requires : goal.pixel-p-requires
pixel-p-requires c = search painting

pub overflow_mul-x : goal.overflow_mul-x
overflow_mul-x c = search painting

pub put_pixel-requires : goal.put_pixel-requires
put_pixel-requires c = search painting

pub loop-x-preserved : goal.loop-x-preserved
loop-x-preserved c = search painting

pub returns : goal.returns
returns c = search painting
