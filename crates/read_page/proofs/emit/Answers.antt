use Rattle.read_page.proofs.Whole.{emitting}
use Rattle.read_page.proofs.emit.Goals as goal

pub returns-then-sheet-size : goal.returns-then-sheet-size
returns-then-sheet-size c = search emitting

pub returns : goal.returns
returns c = search emitting
