use Rattle.octets_put.proofs.Turns.{turns}
use Rattle.octets_put.proofs.put_octets.Goals as goal

pub loop-i-init : goal.loop-i-init
loop-i-init c = search turns

pub loop-i-preserved : goal.loop-i-preserved
loop-i-preserved c = search turns

pub returns : goal.returns
returns c = search turns
