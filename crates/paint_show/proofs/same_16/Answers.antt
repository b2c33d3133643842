use Rattle.paint_show.proofs.Octets.{alikes}
use Rattle.paint_show.proofs.same_16.Goals as goal

pub returns : goal.returns
returns c = search alikes
