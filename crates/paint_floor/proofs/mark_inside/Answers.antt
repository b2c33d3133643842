use Rattle.paint_floor.proofs.Laws.{insides}
use Rattle.paint_floor.proofs.mark_inside.Goals as goal

pub mask_read-requires : goal.mask_read-requires
mask_read-requires c = search insides

pub returns-then-m-ne0 : goal.returns-then-m-ne0
returns-then-m-ne0 c = search insides

pub returns-then-v-eq-DARK : goal.returns-then-v-eq-DARK
returns-then-v-eq-DARK c = search insides

pub returns-else-v-eq-DARK : goal.returns-else-v-eq-DARK
returns-else-v-eq-DARK c = search insides
