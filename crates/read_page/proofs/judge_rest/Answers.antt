use Rattle.read_page.proofs.Whole.{judged_stop, rest_stopped, rest_refused, rest_fine, resting}
use Rattle.read_page.proofs.judge_rest.Goals as goal

pub read_body-requires : goal.read_body-requires
read_body-requires c = search resting

pub returns-in_err-body : goal.returns-in_err-body
returns-in_err-body c = judged_stop _ _ _ _ c.from_residual.ensures
    (rest_stopped c.head_at-hd.result c.args.s.now c.args.out.now c.read_body.new.out c.head_at-hd.ensures c.read_body.result c.read_body.ensures _ c.in_err-body.was)

pub returns-in_err-judge_end : goal.returns-in_err-judge_end
returns-in_err-judge_end c = judged_stop _ _ _ _ c.from_residual-in_err-judge_end.ensures
    (rest_refused c.head_at-hd.result c.args.s.now c.args.out.now c.read_body.new.out c.head_at-hd.ensures c.read_body.result c.read_body.ensures
    c.in_ok-body.body c.in_ok-body.was c.judge_end.result c.judge_end.ensures _ c.in_err-judge_end.was)

pub returns : goal.returns
returns c = rest_fine c.head_at-hd.result c.args.s.now c.args.out.now c.read_body.new.out c.head_at-hd.ensures c.read_body.result c.read_body.ensures
    c.in_ok-body.body c.in_ok-body.was c.judge_end.result c.judge_end.ensures c.in_ok-judge_end.was
