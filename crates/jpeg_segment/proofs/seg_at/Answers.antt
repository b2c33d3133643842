use Rattle.jpeg_segment.proofs.Laws.{seg_laws}
use Rattle.jpeg_segment.proofs.seg_at.Goals as goal

pub returns-then-s-n-lt2 : goal.returns-then-s-n-lt2
returns-then-s-n-lt2 c = search seg_laws

pub returns-then-size-least : goal.returns-then-size-least
returns-then-size-least c = search seg_laws

pub returns-then-s-n : goal.returns-then-s-n
returns-then-s-n c = search seg_laws

pub returns : goal.returns
returns c = search seg_laws
