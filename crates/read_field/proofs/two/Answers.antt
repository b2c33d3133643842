use Rattle.read_field.proofs.Laws.{two_made}
use Rattle.read_field.proofs.two.Goals as goal

pub returns : goal.returns
returns c = search two_made
