use Rattle.write_page.proofs.Stripes.{lining}
use Rattle.write_page.proofs.put_stripes.Goals as goal

pub loop-i-init : goal.loop-i-init
loop-i-init c = search lining

pub put_stripe-at-requires : goal.put_stripe-at-requires
put_stripe-at-requires c = search lining

pub loop-i-preserved : goal.loop-i-preserved
loop-i-preserved c = search lining

pub returns : goal.returns
returns c = search lining
