use Rattle.read_segment.proofs.Segments.{segment_laws}
use Rattle.read_segment.proofs.length_ok.Goals as goal

pub returns : goal.returns
returns c = search segment_laws
