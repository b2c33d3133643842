use Rattle.read_head.proofs.Stripe.{stripe_laws}
use Rattle.read_head.proofs.mask_length_ok.Goals as goal

pub returns-then-has_mask : goal.returns-then-has_mask
returns-then-has_mask c = search stripe_laws

pub returns-else-has_mask : goal.returns-else-has_mask
returns-else-has_mask c = search stripe_laws
