use Rattle.write_start.proofs.Laws.{starting}
use Rattle.write_start.proofs.put_start_mark.Goals as goal

pub returns : goal.returns
returns c = search starting
