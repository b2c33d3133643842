use Rattle.line_verdict.proofs.Laws.{ruling}
use Rattle.line_verdict.proofs.rule_line.Goals as goal

pub returns-then-extent-line : goal.returns-then-extent-line
returns-then-extent-line c = search ruling

pub returns-in_err-map_err : goal.returns-in_err-map_err
returns-in_err-map_err c = search ruling

pub returns : goal.returns
returns c = search ruling
