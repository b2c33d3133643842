use Rattle.band_group.proofs.Rows.{group_put, both_room}
use Rattle.band_group.proofs.put_group.Goals as goal

pub paint_both-requires : goal.paint_both-requires
paint_both-requires c = (c.requires.0, c.requires.1, c.requires.2, c.requires.3, c.tail_of-c.ensures.0, c.requires.5, both_room _ _ _ _ _ c.requires.4 c.tail_of-c.ensures.0 c.requires.7, c.requires.8, c.requires.9, c.requires.10, c.requires.11, c.requires.12)

pub returns : goal.returns
returns c = group_put _ _ _ _ _ _ _ _ _ _ _ c.requires.0 c.requires.2 c.requires.4 c.tail_of-c.ensures.0 c.tail_of-c.ensures.1 _ _ _ c.paint_both.ensures c.mix_lines.ensures
