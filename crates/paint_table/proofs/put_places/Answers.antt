use Rattle.paint_table.proofs.Laws.{placings}
use Rattle.paint_table.proofs.put_places.Goals as goal

pub overflow_mul-t : goal.overflow_mul-t
overflow_mul-t c = search placings

pub overflow_add-t : goal.overflow_add-t
overflow_add-t c = search placings

pub loop-j-preserved : goal.loop-j-preserved
loop-j-preserved c = search placings
