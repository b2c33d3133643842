use Rattle.line_planes.proofs.Laws.{seeking}
use Rattle.line_planes.proofs.start_of.Goals as goal

pub loop-i-init : goal.loop-i-init
loop-i-init c = search seeking

pub entry_at-p-requires : goal.entry_at-p-requires
entry_at-p-requires c = search seeking

pub returns-then-p-layer : goal.returns-then-p-layer
returns-then-p-layer c = search seeking

pub loop-i-preserved : goal.loop-i-preserved
loop-i-preserved c = search seeking

pub returns : goal.returns
returns c = search seeking
