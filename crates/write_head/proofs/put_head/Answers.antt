use Rattle.write_head.proofs.Laws.{head_put}
use Rattle.write_head.proofs.put_head.Goals as goal

pub returns : goal.returns
returns c = head_put _ _ c.args.a c.args.b c.args.c c.requires c.put_begin.ensures c.put_fields.ensures
