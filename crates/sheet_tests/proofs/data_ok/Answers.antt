use Rattle.sheet_tests.proofs.Laws.{testing}
use Rattle.sheet_tests.proofs.data_ok.Goals as goal

pub returns-then-is_coded : goal.returns-then-is_coded
returns-then-is_coded c = search testing

pub returns : goal.returns
returns c = search testing
