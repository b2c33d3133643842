use Rattle.read_page.proofs.Whole.{judged_stop, page_refused, page_begun, page_whole}
use Rattle.read_page.proofs.judge_page.Goals as goal

pub returns-in_err-judge_start : goal.returns-in_err-judge_start
returns-in_err-judge_start c = judged_stop _ _ _ _ c.from_residual.ensures (page_refused c.args.s.now c.judge_start.ensures _ c.in_err-judge_start.was)

pub judge_rest-requires : goal.judge_rest-requires
judge_rest-requires c = page_begun c.args.s.now c.judge_start.ensures _ c.requires c.in_ok-judge_start.was

pub returns : goal.returns
returns c = page_whole c.args.s.now c.judge_start.ensures _ _ _ c.in_ok-judge_start.was c.judge_rest.ensures
