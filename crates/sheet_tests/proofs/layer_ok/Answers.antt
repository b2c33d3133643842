use Rattle.sheet_tests.proofs.Laws.{testing}
use Rattle.sheet_tests.proofs.layer_ok.Goals as goal

pub returns-then-r-eq1 : goal.returns-then-r-eq1
returns-then-r-eq1 c = search testing

pub returns-then-r-eq2 : goal.returns-then-r-eq2
returns-then-r-eq2 c = search testing

pub returns : goal.returns
returns c = search testing
