use Rattle.jpeg_marks.proofs.Laws.{frame_body_laws, other_count}
use Rattle.jpeg_marks.proofs.frame_body.Goals as goal

pub returns-then-height-eq0 : goal.returns-then-height-eq0
returns-then-height-eq0 c = search frame_body_laws

pub returns-then-width-eq0 : goal.returns-then-width-eq0
returns-then-width-eq0 c = search frame_body_laws

pub returns-then-components_ok : goal.returns-then-components_ok
returns-then-components_ok c = search frame_body_laws

pub returns-else-components_ok : goal.returns-else-components_ok
returns-else-components_ok c = other_count _ _ _ _ c.be16-height.ensures c.if-height-eq0.false c.be16-width.ensures c.if-width-eq0.false c.from-components.ensures c.components_ok.ensures c.if-components_ok.false
