use Rattle.jpeg_segment.proofs.Laws.{segment_laws}
use Rattle.jpeg_segment.proofs.segment_step.Goals as goal

pub tag_of-requires : goal.tag_of-requires
tag_of-requires c = search segment_laws

pub returns-in-Err : goal.returns-in-Err
returns-in-Err c = search segment_laws

pub returns-in-None : goal.returns-in-None
returns-in-None c = search segment_laws

pub returns-then-resolution_fits : goal.returns-then-resolution_fits
returns-then-resolution_fits c = search segment_laws

pub returns-else-resolution_fits : goal.returns-else-resolution_fits
returns-else-resolution_fits c = search segment_laws
