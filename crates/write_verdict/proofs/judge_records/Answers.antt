use Rattle.write_verdict.proofs.Loops.{verdict_laws}
use Rattle.write_verdict.proofs.judge_records.Goals as goal

pub first_above-requires : goal.first_above-requires
first_above-requires c = search verdict_laws

pub returns-in-Some : goal.returns-in-Some
returns-in-Some c = search verdict_laws

pub pass_records-requires : goal.pass_records-requires
pass_records-requires c = search verdict_laws

pub returns : goal.returns
returns c = search verdict_laws
