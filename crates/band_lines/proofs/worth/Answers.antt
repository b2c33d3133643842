use Rattle.band_lines.proofs.Laws.{worthing}
use Rattle.band_lines.proofs.worth.Goals as goal

pub returns-then-g-lt2 : goal.returns-then-g-lt2
returns-then-g-lt2 c = search worthing

pub returns-then-g-gt2 : goal.returns-then-g-gt2
returns-then-g-gt2 c = search worthing

pub returns-then-pairs-eq1 : goal.returns-then-pairs-eq1
returns-then-pairs-eq1 c = search worthing

pub row_at-r-requires : goal.row_at-r-requires
row_at-r-requires c = search worthing

pub returns-then-r : goal.returns-then-r
returns-then-r c = search worthing

pub loop-j-init : goal.loop-j-init
loop-j-init c = search worthing

pub unread-requires : goal.unread-requires
unread-requires c = search worthing

pub returns-then-unread : goal.returns-then-unread
returns-then-unread c = search worthing

pub loop-j-preserved : goal.loop-j-preserved
loop-j-preserved c = search worthing

pub returns-else-r : goal.returns-else-r
returns-else-r c = search worthing

pub returns-else-unread : goal.returns-else-unread
returns-else-unread c = search worthing
