use Rattle.write_stripe.proofs.Laws.{striping}
use Rattle.write_stripe.proofs.put_stripe.Goals as goal

pub put_three-requires : goal.put_three-requires
put_three-requires c = search striping

pub returns : goal.returns
returns c = search striping
