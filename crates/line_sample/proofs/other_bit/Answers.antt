use Rattle.line_sample.proofs.Laws.{bits}
use Rattle.line_sample.proofs.other_bit.Goals as goal

pub returns-then-v-eq0 : goal.returns-then-v-eq0
returns-then-v-eq0 c = search bits

pub returns-else-v-eq0 : goal.returns-else-v-eq0
returns-else-v-eq0 c = search bits
