use Rattle.sheet_record.proofs.Laws.{making}
use Rattle.sheet_record.proofs.record_at.Goals as goal

pub returns : goal.returns
returns c = search making
