use Rattle.read_head.proofs.Stripe.{stripe_laws}
use Rattle.read_head.proofs.type_ok.Goals as goal

pub returns : goal.returns
returns c = search stripe_laws
