use Rattle.jpeg_walk.proofs.Laws.{after_over, after_go, after_missing, after_cut}
use Rattle.jpeg_walk.proofs.after.Goals as goal

pub returns-in_err-st : goal.returns-in_err-st
returns-in_err-st c = after_over _ c.in_err-st.was c.from_residual.ensures

pub returns-in-Code : goal.returns-in-Code
returns-in-Code c = after_go _ c.in_ok-st.was c.marker_at.ensures c.in-Code.is

pub returns-in-Missing : goal.returns-in-Missing
returns-in-Missing c = after_missing _ c.in_ok-st.was c.marker_at.ensures c.in-Missing.is

pub returns-in-Cut : goal.returns-in-Cut
returns-in-Cut c = after_cut _ c.in_ok-st.was c.marker_at.ensures c.in-Cut.is
