use Rattle.read_start.proofs.Start.{start_laws}
use Rattle.read_start.proofs.image_coder.Goals as goal

pub returns : goal.returns
returns c = search start_laws
