use Rattle.paint_choice.proofs.Marks.{putting}
use Rattle.paint_choice.proofs.put_twice.Goals as goal

pub returns : goal.returns
returns c = search putting
