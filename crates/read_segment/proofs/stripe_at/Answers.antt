use Rattle.read_segment.proofs.Segments.{segment_laws}
use Rattle.read_segment.proofs.stripe_at.Goals as goal

pub returns-then-k-eq64 : goal.returns-then-k-eq64
returns-then-k-eq64 c = search segment_laws

pub returns-then-size-body : goal.returns-then-size-body
returns-then-size-body c = search segment_laws

pub returns : goal.returns
returns c = search segment_laws
