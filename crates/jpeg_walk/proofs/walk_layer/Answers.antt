use Rattle.jpeg_walk.proofs.Laws.{walk_laws}
use Rattle.jpeg_walk.proofs.walk_layer.Goals.{then-s-start-via-then-s-start, then-s-start-via-else-s-start+then-s-start-lt2, then-s-start-2-via-then-s-start-2, then-s-start-2-via-else-s-start-2+then-s-start-3}
use Rattle.jpeg_walk.proofs.walk_layer.Goals as goal

pub returns-then-s-start : goal.returns-then-s-start
returns-then-s-start c = elim c.then-s-start.branch [ then-s-start-via-then-s-start w ↦ search walk_laws | then-s-start-via-else-s-start+then-s-start-lt2 w ↦ search walk_laws ]

pub returns-then-s-start-2 : goal.returns-then-s-start-2
returns-then-s-start-2 c = elim c.then-s-start-2.branch [ then-s-start-2-via-then-s-start-2 w ↦ search walk_laws | then-s-start-2-via-else-s-start-2+then-s-start-3 w ↦ search walk_laws ]

pub loop-step-init : goal.loop-step-init
loop-step-init c = search walk_laws

pub mark_step-step-requires : goal.mark_step-step-requires
mark_step-step-requires c = search walk_laws

pub loop-step-smaller : goal.loop-step-smaller
loop-step-smaller c = search walk_laws

pub loop-step-preserved : goal.loop-step-preserved
loop-step-preserved c = search walk_laws

pub returns-in-Break : goal.returns-in-Break
returns-in-Break c = search walk_laws
