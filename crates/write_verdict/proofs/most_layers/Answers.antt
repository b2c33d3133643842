use Rattle.write_verdict.proofs.Laws.{most_one}
use Rattle.write_verdict.proofs.most_layers.Goals as goal

pub returns : goal.returns
returns c = search most_one
