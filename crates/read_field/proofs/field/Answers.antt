use Rattle.read_field.proofs.Laws.{leaves}
use Rattle.read_field.proofs.field.Goals as goal

pub returns : goal.returns
returns c = search leaves
