use Rattle.write_page.proofs.Stripes.{ending}
use Rattle.write_page.proofs.stripe_end.Goals as goal

pub loop-j-init : goal.loop-j-init
loop-j-init c = search ending

pub returns-then-s-j-eq1 : goal.returns-then-s-j-eq1
returns-then-s-j-eq1 c = search ending

pub loop-j-preserved : goal.loop-j-preserved
loop-j-preserved c = search ending

pub returns : goal.returns
returns c = search ending
