use Rattle.sheet_table.proofs.Laws.{finding}
use Rattle.sheet_table.proofs.find_stripe.Goals as goal

pub loop-i-init : goal.loop-i-init
loop-i-init c = search finding

pub record_at-requires : goal.record_at-requires
record_at-requires c = search finding

pub with_record-extent-requires : goal.with_record-extent-requires
with_record-extent-requires c = search finding

pub loop-i-preserved : goal.loop-i-preserved
loop-i-preserved c = search finding

pub returns : goal.returns
returns c = search finding
