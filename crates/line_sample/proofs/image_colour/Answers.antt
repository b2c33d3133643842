use Rattle.line_sample.proofs.Laws.{colours}
use Rattle.line_sample.proofs.image_colour.Goals as goal

pub returns-then-each-eq3 : goal.returns-then-each-eq3
returns-then-each-eq3 c = search colours

pub returns : goal.returns
returns c = search colours
