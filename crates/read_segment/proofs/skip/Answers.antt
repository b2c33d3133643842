use Rattle.read_segment.proofs.Segments.{segment_laws}
use Rattle.read_segment.proofs.skip.Goals as goal

pub returns-then-fits : goal.returns-then-fits
returns-then-fits c = search segment_laws

pub returns-else-fits : goal.returns-else-fits
returns-else-fits c = search segment_laws
