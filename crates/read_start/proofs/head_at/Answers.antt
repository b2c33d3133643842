use Rattle.read_start.proofs.Start.{heads}
use Rattle.read_start.proofs.head_at.Goals as goal

pub returns : goal.returns
returns c = search heads
