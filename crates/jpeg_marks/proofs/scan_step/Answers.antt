use Rattle.jpeg_marks.proofs.Laws.{scan_laws}
use Rattle.jpeg_marks.proofs.scan_step.Goals as goal

pub returns-else-st : goal.returns-else-st
returns-else-st c = search scan_laws

pub returns-in-Err : goal.returns-in-Err
returns-in-Err c = search scan_laws

pub returns-in-None : goal.returns-in-None
returns-in-None c = search scan_laws

pub returns-in-Some : goal.returns-in-Some
returns-in-Some c = search scan_laws
