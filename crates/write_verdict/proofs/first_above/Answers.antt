use Rattle.write_verdict.proofs.Loops.{mode_laws}
use Rattle.write_verdict.proofs.first_above.Goals as goal

pub loop-i-init : goal.loop-i-init
loop-i-init c = search mode_laws

pub returns-then-most-record_at : goal.returns-then-most-record_at
returns-then-most-record_at c = search mode_laws

pub loop-i-preserved : goal.loop-i-preserved
loop-i-preserved c = search mode_laws

pub returns : goal.returns
returns c = search mode_laws
