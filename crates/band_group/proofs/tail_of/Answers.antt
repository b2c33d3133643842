use Rattle.band_group.proofs.Rows.{tailing}
use Rattle.band_group.proofs.tail_of.Goals as goal

pub loop-j-init : goal.loop-j-init
loop-j-init c = search tailing

pub overflow_mul-j : goal.overflow_mul-j
overflow_mul-j c = search tailing

pub row_at-m-requires : goal.row_at-m-requires
row_at-m-requires c = search tailing

pub overflow_mul-j-in-loop-j : goal.overflow_mul-j-in-loop-j
overflow_mul-j-in-loop-j c = search tailing

pub overflow_add-j : goal.overflow_add-j
overflow_add-j c = search tailing

pub row_at-r-requires : goal.row_at-r-requires
row_at-r-requires c = search tailing

pub within-requires : goal.within-requires
within-requires c = search tailing

pub within-c-requires : goal.within-c-requires
within-c-requires c = search tailing

pub covers-requires : goal.covers-requires
covers-requires c = search tailing

pub returns-then-covers : goal.returns-then-covers
returns-then-covers c = search tailing

pub loop-j-preserved : goal.loop-j-preserved
loop-j-preserved c = search tailing

pub returns : goal.returns
returns c = search tailing
