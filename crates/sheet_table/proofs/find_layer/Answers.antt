use Rattle.sheet_table.proofs.Laws.{finding, layer_zero, layer_past}
use Rattle.sheet_table.proofs.find_layer.Goals.{else-l-ge1-via-then-l-ge1+else-l-extent, else-l-ge1-via-else-l-ge1}
use Rattle.sheet_table.proofs.find_layer.Goals as goal

pub returns-then-l-extent : goal.returns-then-l-extent
returns-then-l-extent c = search finding

pub returns-else-l-ge1 : goal.returns-else-l-ge1
returns-else-l-ge1 c =
    elim c.else-l-ge1.branch [
      | else-l-ge1-via-then-l-ge1+else-l-extent w ↦ layer_past c.args.extent c.args.l w.if-l-extent.false
      | else-l-ge1-via-else-l-ge1 w ↦ layer_zero c.args.extent c.args.l w.if-l-ge1.false
    ]
