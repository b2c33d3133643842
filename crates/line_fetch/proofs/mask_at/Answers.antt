use Rattle.line_fetch.proofs.Laws.{fetching}
use Rattle.line_fetch.proofs.mask_at.Goals as goal

pub other_bit-requires : goal.other_bit-requires
other_bit-requires c = search fetching

pub returns-then-x-r : goal.returns-then-x-r
returns-then-x-r c = search fetching

pub other_bit-requires-then-r-x : goal.other_bit-requires-then-r-x
other_bit-requires-then-r-x c = search fetching

pub returns-then-r-x : goal.returns-then-r-x
returns-then-r-x c = search fetching

pub returns-then-r-eq0 : goal.returns-then-r-eq0
returns-then-r-eq0 c = search fetching

pub scale_pos-p-requires : goal.scale_pos-p-requires
scale_pos-p-requires c = search fetching

pub bit_at-requires : goal.bit_at-requires
bit_at-requires c = search fetching

pub returns : goal.returns
returns c = search fetching
