use Rattle.paint_show.proofs.Laws.{eithers}
use Rattle.paint_show.proofs.either.Goals as goal

pub returns-then-v-c : goal.returns-then-v-c
returns-then-v-c c = search eithers

pub returns-else-v-c : goal.returns-else-v-c
returns-else-v-c c = search eithers
