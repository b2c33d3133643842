use Rattle.read_stripe.proofs.Laws.{layers_room, layers_next, layers_laid, laying}
use Rattle.read_stripe.proofs.stripe_layers.Goals as goal

pub put_stripe-requires : goal.put_stripe-requires
put_stripe-requires c = layers_room c.args.out.now c.args.s.now c.args.f c.args.at c.args.first c.requires c.args.hd
    c.read_layers.result c.read_layers.ensures c.in_ok-layers.layers c.in_ok-layers.was

pub returns-in_err-layers : goal.returns-in_err-layers
returns-in_err-layers c = record { step = search laying; laid = search laying }

pub returns : goal.returns
returns c =
    record {
      step = layers_next c.args.hd c.args.k c.args.f c.args.s.now c.args.at c.read_layers.result c.read_layers.ensures c.in_ok-layers.layers c.in_ok-layers.was;
      laid = layers_laid c.args.hd c.args.k c.args.f c.args.s.now c.args.at c.read_layers.result c.read_layers.ensures c.in_ok-layers.layers c.in_ok-layers.was
          c.args.out.now c.put_stripe.new.out c.args.first c.put_stripe.ensures;
    }
