use Rattle.sheet_tests.proofs.Laws.{testing}
use Rattle.sheet_tests.proofs.is_placed.Goals as goal

pub returns-then-r-st : goal.returns-then-r-st
returns-then-r-st c = search testing

pub returns : goal.returns
returns c = search testing
