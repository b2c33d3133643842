use Rattle.read_stripe.proofs.Laws.{stripe_laying, stripe_stepped, stripe_laid, striping}
use Rattle.read_stripe.proofs.read_stripe.Goals as goal

pub stripe_layers-requires : goal.stripe_layers-requires
stripe_layers-requires c = stripe_laying c.args.hd c.args.k c.args.left c.args.s.now c.args.at c.judge_stripe.result c.judge_stripe.ensures
    c.args.out.now c.args.first c.requires c.fields_at-f.result c.fields_at-f.ensures c.in_ok-judge_stripe.was

pub returns-in_err-judge_stripe : goal.returns-in_err-judge_stripe
returns-in_err-judge_stripe c = record { step = search striping; laid = search striping }

pub returns : goal.returns
returns c =
    record {
      step = stripe_stepped c.args.hd c.args.k c.args.left c.args.s.now c.args.at c.judge_stripe.result c.judge_stripe.ensures
          c.args.out.now c.args.first c.requires c.fields_at-f.result c.fields_at-f.ensures c.in_ok-judge_stripe.was c.stripe_layers.result c.stripe_layers.ensures.step;
      laid = stripe_laid c.args.hd c.args.k c.args.left c.args.s.now c.args.at c.judge_stripe.result c.judge_stripe.ensures
          c.args.out.now c.args.first c.requires c.fields_at-f.result c.fields_at-f.ensures c.in_ok-judge_stripe.was c.stripe_layers.new.out c.stripe_layers.ensures.laid;
    }
