use Rattle.jpeg_walk.proofs.Laws.{mark_laws}
use Rattle.jpeg_walk.proofs.mark_step.Goals as goal

pub returns-in-Alone : goal.returns-in-Alone
returns-in-Alone c = search mark_laws

pub returns-in-Frame : goal.returns-in-Frame
returns-in-Frame c = search mark_laws

pub returns-in-Scan : goal.returns-in-Scan
returns-in-Scan c = search mark_laws

pub returns-in-End : goal.returns-in-End
returns-in-End c = search mark_laws

pub returns-in-Wrong : goal.returns-in-Wrong
returns-in-Wrong c = search mark_laws

pub returns-in-Segment : goal.returns-in-Segment
returns-in-Segment c = search mark_laws
