use Rattle.band_group.proofs.Rows.{put_fits, put_plain, both_painted}
use native.Mathlib.Omega.{arith}
use Rattle.band_group.proofs.paint_both.Goals as goal

pub paint_bit-requires : goal.paint_bit-requires
paint_bit-requires c = (c.requires.0, c.requires.1, c.requires.2, c.requires.3, c.requires.5, (let f = c.requires.6 in omega arith), (let h = c.requires.7 in omega arith), (let h = c.requires.8 in omega arith), (let h = c.requires.9 in omega arith), (let h = c.requires.10 in omega arith), (let h = c.requires.11 in omega arith))

pub paint_bit-requires-2 : goal.paint_bit-requires-2
paint_bit-requires-2 c = (put_fits _ _ _ _ _ _ c.requires.0 c.requires.2 c.paint_bit.ensures.1, put_plain _ _ _ _ _ _ c.requires.0 c.requires.2 c.paint_bit.ensures.1 c.requires.1, c.requires.2, c.requires.3, (let k = c.requires.4 in let w = c.requires.5 in omega arith), (let f = c.requires.6 in let n = c.paint_bit.ensures.0.long in omega arith), (let h = c.requires.7 in omega arith), (let h = c.requires.8 in omega arith), (let h = c.requires.9 in omega arith), (let h = c.requires.10 in omega arith), (let h = c.requires.11 in omega arith))

pub returns : goal.returns
returns c = both_painted _ _ _ _ _ _ _ _ c.requires.0 c.requires.2 c.requires.4 _ c.paint_bit.ensures.1 _ _ _ c.paint_bit.ensures.0 c.paint_bit-2.ensures.0
