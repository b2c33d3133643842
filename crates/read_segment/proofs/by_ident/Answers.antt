use Rattle.read_segment.proofs.Segments.{segment_laws}
use Rattle.read_segment.proofs.by_ident.Goals as goal

pub returns-then-stands_at : goal.returns-then-stands_at
returns-then-stands_at c = search segment_laws

pub returns-then-is_optional : goal.returns-then-is_optional
returns-then-is_optional c = search segment_laws

pub returns-else-is_optional : goal.returns-else-is_optional
returns-else-is_optional c = search segment_laws

pub returns-else-fits : goal.returns-else-fits
returns-else-fits c = search segment_laws
