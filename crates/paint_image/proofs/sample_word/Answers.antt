use Rattle.paint_image.proofs.Laws.{kinds}
use Rattle.paint_image.proofs.sample_word.Goals as goal

pub returns-then-each-eq3 : goal.returns-then-each-eq3
returns-then-each-eq3 c = search kinds

pub returns-else-each-eq3 : goal.returns-else-each-eq3
returns-else-each-eq3 c = search kinds
