use Rattle.paint_layer.proofs.Parts.{testing}
use Rattle.paint_layer.proofs.spans_dark.Goals as goal

pub returns-then-r-ne0 : goal.returns-then-r-ne0
returns-then-r-ne0 c = search testing

pub returns-then-x-r : goal.returns-then-x-r
returns-then-x-r c = search testing
