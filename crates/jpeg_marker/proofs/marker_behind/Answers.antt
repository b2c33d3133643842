use Rattle.jpeg_marker.proofs.Laws.{behind}
use Rattle.jpeg_marker.proofs.marker_behind.Goals as goal

pub returns-then-e-s : goal.returns-then-e-s
returns-then-e-s c = search behind

pub returns : goal.returns
returns c = search behind
