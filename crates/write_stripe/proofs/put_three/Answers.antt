use Rattle.write_stripe.proofs.Laws.{three_put, three_next}
use Rattle.write_stripe.proofs.put_three.Goals as goal

pub returns : goal.returns
returns c = record {
  put = three_put _ _ _ c.args.a c.args.b c.args.c c.requires c.put_head.ensures c.put_layer.ensures c.put_layer-2.ensures c.put_layer-3.ensures;
  next = three_next _ _ _ c.args.a c.args.b c.args.c c.requires;
}
