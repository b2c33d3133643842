use Rattle.line_verdict.proofs.Laws.{ruling}
use Rattle.line_verdict.proofs.judge_line.Goals as goal

pub overflow_cast-result : goal.overflow_cast-result
overflow_cast-result c = search ruling

pub returns-in-Err : goal.returns-in-Err
returns-in-Err c = search ruling

pub rule_stripe-requires : goal.rule_stripe-requires
rule_stripe-requires c = search ruling
