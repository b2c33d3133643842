use Rattle.sheet_record.proofs.Laws.{making}
use Rattle.sheet_record.proofs.encoded.Goals as goal

pub returns : goal.returns
returns c = search making
