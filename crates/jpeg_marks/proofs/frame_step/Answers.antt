use Rattle.jpeg_marks.proofs.Laws.{frame_laws}
use Rattle.jpeg_marks.proofs.frame_step.Goals as goal

pub returns-then-st : goal.returns-then-st
returns-then-st c = search frame_laws

pub returns-then-st-eq0 : goal.returns-then-st-eq0
returns-then-st-eq0 c = search frame_laws

pub frame_body-requires : goal.frame_body-requires
frame_body-requires c = search frame_laws

pub returns-in-Err : goal.returns-in-Err
returns-in-Err c = search frame_laws

pub returns-in-Ok : goal.returns-in-Ok
returns-in-Ok c = search frame_laws
