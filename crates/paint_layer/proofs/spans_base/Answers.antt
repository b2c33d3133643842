use Rattle.paint_layer.proofs.Parts.{testing}
use Rattle.paint_layer.proofs.spans_base.Goals as goal

pub returns : goal.returns
returns c = search testing
