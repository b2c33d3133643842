use Rattle.line_verdict.proofs.Laws.{ruling}
use Rattle.line_verdict.proofs.rule_stripe.Goals as goal

pub returns-in_default : goal.returns-in_default
returns-in_default c = search ruling

pub rule_line-requires : goal.rule_line-requires
rule_line-requires c = search ruling

pub returns : goal.returns
returns c = search ruling
