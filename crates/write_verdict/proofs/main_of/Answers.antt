use Rattle.write_verdict.proofs.Loops.{verdict_laws}
use Rattle.write_verdict.proofs.main_of.Goals as goal

pub returns-then-s-lt-TWO_RECORDS : goal.returns-then-s-lt-TWO_RECORDS
returns-then-s-lt-TWO_RECORDS c = search verdict_laws

pub returns : goal.returns
returns c = search verdict_laws
