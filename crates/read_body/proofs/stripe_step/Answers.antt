use Rattle.read_body.proofs.Stripe.{by_mode}
use Rattle.read_body.proofs.stripe_step.Goals as goal

pub read_stripe-requires : goal.read_stripe-requires
read_stripe-requires c = search by_mode

pub returns : goal.returns
returns c = record { step = search by_mode; laid = search by_mode }
