use Rattle.jpeg_segment.proofs.Laws.{tag_laws}
use Rattle.jpeg_segment.proofs.tag_of.Goals as goal

pub returns-then-code-ne225 : goal.returns-then-code-ne225
returns-then-code-ne225 c = search tag_laws

pub returns-then-st-ne0 : goal.returns-then-st-ne0
returns-then-st-ne0 c = search tag_laws

pub returns-then-next-n-lt12 : goal.returns-then-next-n-lt12
returns-then-next-n-lt12 c = search tag_laws

pub returns-then-stands_at : goal.returns-then-stands_at
returns-then-stands_at c = search tag_laws

pub returns-else-stands_at : goal.returns-else-stands_at
returns-else-stands_at c = search tag_laws
