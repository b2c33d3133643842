use Rattle.jpeg_marks.proofs.Laws.{end_laws}
use Rattle.jpeg_marks.proofs.end_step.Goals as goal

pub returns-then-st : goal.returns-then-st
returns-then-st c = search end_laws

pub returns-else-st : goal.returns-else-st
returns-else-st c = search end_laws
