use Rattle.sheet_tests.proofs.Laws.{joining}
use Rattle.sheet_tests.proofs.page_ok.Goals as goal

pub returns : goal.returns
returns c = search joining
