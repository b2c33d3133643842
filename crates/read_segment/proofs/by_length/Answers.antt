use Rattle.read_segment.proofs.Segments.{segment_laws}
use Rattle.read_segment.proofs.by_length.Goals as goal

pub by_ident-requires : goal.by_ident-requires
by_ident-requires c = search segment_laws

pub returns-then-length_ok : goal.returns-then-length_ok
returns-then-length_ok c = search segment_laws

pub returns-else-length_ok : goal.returns-else-length_ok
returns-else-length_ok c = search segment_laws

pub returns-else-fits : goal.returns-else-fits
returns-else-fits c = search segment_laws
