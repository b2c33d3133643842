use Rattle.line_planes.proofs.Laws.{gathering}
use Rattle.line_planes.proofs.plane_at.Goals as goal

pub returns : goal.returns
returns c = search gathering
