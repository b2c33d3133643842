use Rattle.write_verdict.proofs.Loops.{verdict_laws}
use Rattle.write_verdict.proofs.judge_write.Goals as goal

pub judge_records-requires : goal.judge_records-requires
judge_records-requires c = search verdict_laws

pub overflow_cast-result : goal.overflow_cast-result
overflow_cast-result c = search verdict_laws

pub returns-in-Ok : goal.returns-in-Ok
returns-in-Ok c = search verdict_laws

pub returns-in-Err : goal.returns-in-Err
returns-in-Err c = search verdict_laws
