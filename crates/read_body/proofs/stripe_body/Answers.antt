use Rattle.read_body.proofs.Stripe.{by_mode}
use Rattle.read_body.proofs.stripe_body.Goals as goal

pub returns : goal.returns
returns c = search by_mode
