use Rattle.line_fetch.proofs.Laws.{fetching}
use Rattle.line_fetch.proofs.image_at.Goals as goal

pub returns-then-x-r : goal.returns-then-x-r
returns-then-x-r c = search fetching

pub returns-then-r-x : goal.returns-then-r-x
returns-then-r-x c = search fetching

pub returns-then-r-eq0 : goal.returns-then-r-eq0
returns-then-r-eq0 c = search fetching

pub scale_pos-p-requires : goal.scale_pos-p-requires
scale_pos-p-requires c = search fetching

pub image_colour-requires : goal.image_colour-requires
image_colour-requires c = search fetching

pub returns : goal.returns
returns c = search fetching
