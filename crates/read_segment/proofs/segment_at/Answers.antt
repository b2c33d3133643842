use Rattle.read_segment.proofs.Segments.{segment_laws}
use Rattle.read_segment.proofs.segment_at.Goals as goal

pub returns-then-stands_at : goal.returns-then-stands_at
returns-then-stands_at c = search segment_laws

pub returns-else-stands_at : goal.returns-else-stands_at
returns-else-stands_at c = search segment_laws
