use Rattle.write_page.proofs.Page.{heading}
use Rattle.write_page.proofs.head_of.Goals as goal

pub returns-then-s-lt-TWO_RECORDS : goal.returns-then-s-lt-TWO_RECORDS
returns-then-s-lt-TWO_RECORDS c = search heading

pub returns : goal.returns
returns c = search heading
