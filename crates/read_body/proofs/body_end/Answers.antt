use Rattle.read_body.proofs.Segments.{ending}
use Rattle.read_body.proofs.body_end.Goals as goal

pub returns-then-p-eq0 : goal.returns-then-p-eq0
returns-then-p-eq0 c = search ending

pub returns : goal.returns
returns c = search ending
