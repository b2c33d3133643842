use Rattle.band_group.proofs.Rows.{bit_put}
use Rattle.band_group.proofs.give_bit.Goals as goal

pub returns : goal.returns
returns c = bit_put _ _ _ _ c.row_out.ensures c.put_row.ensures
