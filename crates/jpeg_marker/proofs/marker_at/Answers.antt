use Rattle.jpeg_marker.proofs.Laws.{marking}
use Rattle.jpeg_marker.proofs.marker_at.Goals as goal

pub returns-then-s-at : goal.returns-then-s-at
returns-then-s-at c = search marking

pub returns-then-s-at-lt2 : goal.returns-then-s-at-lt2
returns-then-s-at-lt2 c = search marking

pub returns-then-s-at-2 : goal.returns-then-s-at-2
returns-then-s-at-2 c = search marking

pub returns-then-s-at-3 : goal.returns-then-s-at-3
returns-then-s-at-3 c = search marking

pub returns : goal.returns
returns c = search marking
