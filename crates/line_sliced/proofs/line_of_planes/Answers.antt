use Rattle.line_sliced.proofs.Laws.{planes_lined}
use Rattle.line_sliced.proofs.line_of_planes.Goals as goal

pub returns : goal.returns
returns c = planes_lined _ _ _ _ _ _ _ _ _ _ c.gather_planes-t.ensures c.compose_line.ensures
