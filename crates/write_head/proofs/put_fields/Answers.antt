use Rattle.write_head.proofs.Laws.{fields_put}
use Rattle.write_head.proofs.put_fields.Goals as goal

pub returns : goal.returns
returns c = fields_put _ _ c.args.a c.args.b c.args.c c.requires c.type_of-t.ensures c.put_octets.ensures c.from.ensures c.from-2.ensures c.put_pair.ensures c.from-3.ensures c.from-4.ensures c.put_pair-2.ensures c.from-5.ensures c.put_pair-3.ensures
